pub mod Layout
pub mod Refusals
