pub mod Run
pub mod Own
