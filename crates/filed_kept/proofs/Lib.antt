pub mod Keeping
pub mod First
