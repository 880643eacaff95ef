pub mod Kinds
pub mod Places
pub mod Marking
pub mod Moves
pub mod Apart
