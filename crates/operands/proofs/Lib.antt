pub mod TestReads
