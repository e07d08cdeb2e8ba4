pub mod Tables
pub mod MemberRead
pub mod QueryRead
