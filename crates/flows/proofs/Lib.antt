pub mod Alike
pub mod Exposing
pub mod Searches
