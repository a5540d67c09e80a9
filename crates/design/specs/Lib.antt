pub mod First
pub mod Right
