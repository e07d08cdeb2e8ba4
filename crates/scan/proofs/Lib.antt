pub mod Ranges
mod Blanks
pub mod Shown
