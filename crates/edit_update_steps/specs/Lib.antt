pub mod Walk
pub mod Steps
pub mod Replaced
pub mod Stored
