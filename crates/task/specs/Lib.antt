pub mod Task
pub mod Input
pub mod Log
