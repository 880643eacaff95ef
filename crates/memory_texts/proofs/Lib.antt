pub mod Carry
pub mod Loops
pub mod Low
pub mod Over
pub mod Texts
