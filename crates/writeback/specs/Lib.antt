pub mod Slots
pub mod Holds
pub mod Overlays
pub mod Overlaid
pub mod Stacks
pub mod Laws
