pub mod Spelling
pub mod Parsed
pub mod Conditions
pub mod Machine
