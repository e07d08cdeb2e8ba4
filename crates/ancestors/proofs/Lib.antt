pub mod AncestorLaws
