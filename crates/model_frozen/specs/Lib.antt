pub mod Frozen
