pub mod Deque
pub mod Run
