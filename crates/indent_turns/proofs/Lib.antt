mod Rest
mod Steps
pub mod Turns
