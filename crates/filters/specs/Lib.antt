pub mod Some
pub mod Windows
pub mod NonAscii
