pub mod Cutting
pub mod Numbers
pub mod Parsing
pub mod Places
