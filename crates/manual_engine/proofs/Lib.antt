pub mod AnswerLaws
pub mod Determined
