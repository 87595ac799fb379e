pub mod PhaseLaws
pub mod Readings
pub mod Determined
