pub mod SomeLaws
pub mod Pairs
pub mod Passing
