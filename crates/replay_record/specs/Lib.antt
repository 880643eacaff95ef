pub mod Inside
pub mod Modes
