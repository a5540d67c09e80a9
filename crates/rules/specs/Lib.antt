pub mod Ranges
pub mod Parts
pub mod Widths
pub mod Blocks
pub mod Rules
pub mod First
