pub mod Answers
pub mod Texts
pub mod Form
pub mod Printed
