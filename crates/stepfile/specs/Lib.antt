pub mod Records
pub mod Files
pub mod Writing
pub mod Refusals
pub mod RoundTrip
