pub mod Progress
pub mod WholeQuery
