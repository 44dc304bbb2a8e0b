pub mod Audits
pub mod Pairs
