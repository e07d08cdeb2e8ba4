pub mod Withdrawn
pub mod Fields
pub mod LogLength
