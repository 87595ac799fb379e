pub mod WordLaws
pub mod NumberLaws
pub mod NameLaws
pub mod Determined
