pub mod Added
pub mod Calls
