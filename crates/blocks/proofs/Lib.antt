pub mod Groups
pub mod Propagating
