pub mod Found
pub mod Retold
pub mod Setups
