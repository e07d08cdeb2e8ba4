pub mod Refusals
pub mod Refusal
pub mod Answer
pub mod Word
pub mod Written
pub mod Checks
pub mod Answers
