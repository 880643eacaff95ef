pub mod Lines
pub mod Guess
