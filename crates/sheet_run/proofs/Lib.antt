mod CallOf
pub mod Running
mod Ran
pub mod Codes
