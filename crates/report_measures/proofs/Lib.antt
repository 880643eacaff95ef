mod Loops
pub mod ByCharacters
