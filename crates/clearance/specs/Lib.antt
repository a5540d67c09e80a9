pub mod Tables
pub mod Text
pub mod Squares
pub mod Tabled
