pub mod Walk
pub mod Chunks
pub mod Segments
