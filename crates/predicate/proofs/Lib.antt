pub mod KindLaws
pub mod Table
pub mod TextLaws
pub mod PayloadLaws
pub mod OutcomeLaws
pub mod BlankLaws
pub mod FoldLaws
