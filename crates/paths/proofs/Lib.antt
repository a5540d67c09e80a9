pub mod Narrowing
pub mod Unread
