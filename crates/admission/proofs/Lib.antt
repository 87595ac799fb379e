pub mod FirstLaws
pub mod Tighter
pub mod BrokenLaws
pub mod Broken
pub mod KnownTables
pub mod Determined
