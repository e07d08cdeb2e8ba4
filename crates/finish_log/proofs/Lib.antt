pub mod InTurn
mod Halves
mod Finishing
