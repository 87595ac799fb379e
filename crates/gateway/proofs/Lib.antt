pub mod Running
pub mod Blocks
pub mod Determined
pub mod Answers
pub mod BlockAnswers
