pub mod Sections
pub mod Output
