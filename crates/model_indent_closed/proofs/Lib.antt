pub mod Growth
pub mod Indent
pub mod Walk
