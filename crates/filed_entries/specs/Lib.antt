pub mod Places
pub mod Entries
