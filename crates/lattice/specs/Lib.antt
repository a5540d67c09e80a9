pub mod Meaning
pub mod Kinds
pub mod Chains
pub mod Reversals
pub mod Pairs
pub mod Bitsets
pub mod Owners
