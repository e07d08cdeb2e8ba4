pub mod Consultation
