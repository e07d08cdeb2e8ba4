pub mod Consulting
pub mod Parish
