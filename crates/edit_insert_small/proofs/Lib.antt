pub mod Staying
pub mod Sizes
