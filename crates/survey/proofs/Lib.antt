pub mod Counting
pub mod Marking
