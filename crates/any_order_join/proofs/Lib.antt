pub mod Reading
pub mod Theorem
