pub mod FirstTighter
pub mod Broken
pub mod Refusals
