pub mod Columns
pub mod Laid
