pub mod Tests
pub mod Checks
pub mod Ranges
pub mod ConditionLaws
