pub mod OpenLaws
pub mod ReadingLaws
pub mod GroupLoops
pub mod Members
