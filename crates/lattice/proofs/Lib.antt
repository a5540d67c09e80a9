pub mod Lists
pub mod Joining
pub mod Ranges
