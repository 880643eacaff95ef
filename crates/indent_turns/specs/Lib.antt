pub mod Rest
pub mod Steps
pub mod Walk
