pub mod Layers
pub mod Layered
pub mod Laws
