pub mod Padding
pub mod Table
pub mod Slots
