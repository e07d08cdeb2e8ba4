pub mod RowLoop
pub mod BlockLoop
pub mod LogLaws
