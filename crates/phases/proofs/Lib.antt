pub mod PhaseLaws
pub mod ByPhaseLaws
pub mod CaseLaws
pub mod Determined
