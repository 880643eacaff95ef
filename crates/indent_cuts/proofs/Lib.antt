pub mod Lines
pub mod Splice
