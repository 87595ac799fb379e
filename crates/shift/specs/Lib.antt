pub mod Readings
pub mod States
pub mod Numbers
pub mod Steps
pub mod Excess
pub mod Answers
pub mod Runs
pub mod Refusals
