pub mod Decimal
pub mod LineLaws
pub mod Refusals
pub mod Determined
