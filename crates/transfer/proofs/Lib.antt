pub mod JoinLaws
pub mod CutLaws
pub mod Transfers
pub mod Nights
pub mod Refusals
pub mod Determined
pub mod KnownJoins
