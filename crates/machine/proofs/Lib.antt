pub mod Widths
pub mod Targets
pub mod Turns
pub mod Steps
