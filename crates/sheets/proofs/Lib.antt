pub mod Checking
pub mod Keying
pub mod Walking
