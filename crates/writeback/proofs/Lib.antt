pub mod Slotted
pub mod Found
pub mod Four
pub mod Overlaid
pub mod Stacked
pub mod Ruled
