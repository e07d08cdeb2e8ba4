pub mod FieldReads
