pub mod Layout
pub mod WellFormed
pub mod Calls
