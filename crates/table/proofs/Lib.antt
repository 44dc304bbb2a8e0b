pub mod Moves
pub mod Maps
pub mod Held
pub mod Edits
pub mod Turns
