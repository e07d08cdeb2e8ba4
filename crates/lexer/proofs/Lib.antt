pub mod Ahead
pub mod WordBytes
pub mod Digits
pub mod QuotedBytes
