pub mod Values
pub mod Taking
pub mod Remembering
