pub mod Set
pub mod SetLaws
pub mod Kept
pub mod KeptLaws
pub mod Gathered
pub mod Changed
pub mod ChangedLaws
pub mod Taken
