pub mod Determined
pub mod AnswerLaws
pub mod GuardLaws
pub mod EventLaws
pub mod Places
pub mod Ways
pub mod Plainly
pub mod Same
