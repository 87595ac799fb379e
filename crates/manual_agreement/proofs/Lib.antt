pub mod Every
pub mod Joined
pub mod Readings
pub mod Agreement
pub mod Calls
pub mod Looser
