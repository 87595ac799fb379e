pub mod Join
pub mod Refusals
pub mod Transfers
