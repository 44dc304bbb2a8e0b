pub mod Rows
pub mod Told
pub mod Mapped
pub mod Written
pub mod Summed
pub mod Ruled
