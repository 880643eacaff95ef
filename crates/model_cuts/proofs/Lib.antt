pub mod Cuts
pub mod Growth
pub mod Indent
pub mod Steps
