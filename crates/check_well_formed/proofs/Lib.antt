mod Whole
pub mod Bridge
pub mod Chunks
pub mod Rows
pub mod Told
