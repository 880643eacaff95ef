pub mod Own
pub mod Run
