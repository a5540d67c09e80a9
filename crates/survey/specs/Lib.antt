pub mod Sums
pub mod Walks
pub mod Uses
pub mod Sets
