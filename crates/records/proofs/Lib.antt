pub mod Earliest
pub mod Building
pub mod Growing
pub mod Designs
pub mod Tables
