pub mod Commands
pub mod Maps
