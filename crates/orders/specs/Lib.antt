pub mod OrderSet
