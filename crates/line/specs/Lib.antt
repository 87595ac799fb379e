pub mod Ascii
pub mod Decimals
pub mod Lines
pub mod Laying
pub mod Refusals
