pub mod Checks
pub mod Sheets
