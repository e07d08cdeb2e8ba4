pub mod InTurn
mod Logging
