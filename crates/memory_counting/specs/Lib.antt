pub mod Counts
pub mod Once
