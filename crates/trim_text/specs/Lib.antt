pub mod Patterns
pub mod Sides
