pub mod Repeats
pub mod Paths
