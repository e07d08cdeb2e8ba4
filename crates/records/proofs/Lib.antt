pub mod Records
pub mod Tabulated
