pub mod Making
pub mod Packing
