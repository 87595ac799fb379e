pub mod Verdicts
pub mod Said
pub mod Refusals
