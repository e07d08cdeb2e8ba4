pub mod Open
pub mod Reading
