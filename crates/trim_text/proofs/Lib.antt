pub mod Numbers
pub mod Places
pub mod Sides
