pub mod Bytes
pub mod Codes
pub mod Layouts
pub mod Cells
pub mod Nodes
pub mod Trees
pub mod Labels
