pub mod Faults
pub mod Finds
pub mod Readings
pub mod Setups
