pub mod Notice
pub mod Outcome
