mod Places
pub mod Output
pub mod Sections
pub mod Telling
pub mod Valid
pub mod Writing
