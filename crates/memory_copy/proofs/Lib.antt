pub mod Copying
pub mod Rows
