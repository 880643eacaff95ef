pub mod Live
pub mod Run
