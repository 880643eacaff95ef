pub mod Bytes
pub mod Fills
pub mod ByCharacters
