pub mod Words
pub mod Names
