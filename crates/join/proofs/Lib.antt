pub mod Making
pub mod Joining
