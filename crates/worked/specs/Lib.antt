pub mod Designs
pub mod Rows
