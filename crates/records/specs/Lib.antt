pub mod Offsets
pub mod Table
