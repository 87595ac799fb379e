pub mod Limits
pub mod Rules
pub mod Refusals
pub mod Tighter
