pub mod Checked
pub mod Codes
pub mod Kinds
pub mod Records
