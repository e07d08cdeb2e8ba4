pub mod SumLaws
pub mod OnesLaws
pub mod BitLaws
pub mod WordLaws
pub mod BitmapLaws
pub mod TableLaws
pub mod Lines
pub mod Words
