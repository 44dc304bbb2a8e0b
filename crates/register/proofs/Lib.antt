pub mod Begun
pub mod Copies
pub mod Entering
pub mod Listed
pub mod Openings
pub mod Sealed
