pub mod Fields
pub mod Cases
pub mod Kinds
pub mod Heads
