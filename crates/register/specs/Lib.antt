pub mod Seals
pub mod Sheets
pub mod Worlds
