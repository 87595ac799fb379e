pub mod TraceLaws
pub mod CodeLaws
pub mod Determined
