pub mod Decoded
pub mod Numbers
pub mod Decimal
pub mod Header
pub mod Output
