pub mod Determined
pub mod Alike
