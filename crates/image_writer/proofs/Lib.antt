pub mod Puts
pub mod Wholes
