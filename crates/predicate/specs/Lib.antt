pub mod Kinds
pub mod Meaning
pub mod Outcome
pub mod Payload
