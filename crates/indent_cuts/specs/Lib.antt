pub mod Splice
pub mod Lines
