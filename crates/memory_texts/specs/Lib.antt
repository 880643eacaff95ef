pub mod Over
pub mod Texts
pub mod Carry
pub mod Low
pub mod Own
