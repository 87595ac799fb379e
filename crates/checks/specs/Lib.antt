pub mod Checks
pub mod Ranges
pub mod Determined
pub mod Conditions
