pub mod Phases
pub mod ByPhase
