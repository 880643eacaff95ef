mod Loops
pub mod Emitting
pub mod Given
