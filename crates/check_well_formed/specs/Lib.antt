pub mod Rows
pub mod Seen
