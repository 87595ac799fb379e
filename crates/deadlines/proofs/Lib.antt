pub mod DeadlineLaws
pub mod Determined
