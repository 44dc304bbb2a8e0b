pub mod Faults
pub mod Bits
pub mod Image
pub mod Opened
pub mod Rows
pub mod Laws
pub mod Told
