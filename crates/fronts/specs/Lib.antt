pub mod Sure
pub mod Fronts
