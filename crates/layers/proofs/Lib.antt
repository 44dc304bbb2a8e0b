pub mod Offsets
pub mod Mirrors
pub mod Ruled
