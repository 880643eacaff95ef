pub mod Loaded
pub mod Tables
pub mod Written
