pub mod ByteTests
pub mod Found
pub mod Heads
pub mod DueRowLaws
