pub mod Kept
pub mod Frozen
