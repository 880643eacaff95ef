pub mod Lay
pub mod Rebuilt
