pub mod Chunks
pub mod Row
pub mod Walk
