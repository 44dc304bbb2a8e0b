pub mod Finding
pub mod Lent
pub mod Powers
pub mod Rules
