pub mod Sums
pub mod Bitmap
pub mod Bit
pub mod Word
pub mod Table
