pub mod TickLaws
pub mod Determined
