pub mod Texts
mod AskedBits
mod SureLaws
mod FrontLaws
