pub mod ByteTest
pub mod Block
pub mod Head
