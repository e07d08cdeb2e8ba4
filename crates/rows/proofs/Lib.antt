pub mod MarkLines
pub mod Blocks
pub mod BlockLoop
pub mod RowsLoop
pub mod Prepared
