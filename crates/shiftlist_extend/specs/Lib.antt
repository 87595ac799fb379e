pub mod Extending
pub mod Resuming
pub mod Refusals
