pub mod Register
pub mod Writing
pub mod RegisterLaws
