pub mod Checks
pub mod Fronts
