pub mod Inputs
pub mod InHand
