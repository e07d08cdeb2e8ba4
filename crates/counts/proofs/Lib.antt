pub mod WordOnes
pub mod FullAdder
pub mod LineOnes
pub mod Whole
