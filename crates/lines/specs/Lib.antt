pub mod Input
pub mod Laws
pub mod Lines
pub mod Output
