pub mod Bounds
pub mod Bodies
pub mod Lowest
pub mod Keeping
pub mod Telling
