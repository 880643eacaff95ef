pub mod Replaced
pub mod Steps
pub mod Walk
pub mod Stored
