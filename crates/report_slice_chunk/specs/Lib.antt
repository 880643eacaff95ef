pub mod Emit
pub mod Given
