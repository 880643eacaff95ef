pub mod Bits
pub mod Marking
