pub mod StoreLaws
pub mod Determined
