pub mod ListLaws
pub mod Standing
pub mod Flags
pub mod Bounds
pub mod Times
pub mod Invariants
