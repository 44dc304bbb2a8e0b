pub mod Rules
pub mod Turns
pub mod Chain
pub mod Ends
pub mod Tails
