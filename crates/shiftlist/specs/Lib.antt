pub mod Shifts
pub mod Lists
pub mod Fetching
pub mod Entries
pub mod Walks
pub mod Refusals
