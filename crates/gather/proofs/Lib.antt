pub mod Adding
pub mod Gathering
