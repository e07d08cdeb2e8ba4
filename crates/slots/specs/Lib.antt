pub mod Slots
pub mod Limits
