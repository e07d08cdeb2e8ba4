pub mod File
pub mod Prints
