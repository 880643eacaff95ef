pub mod Deque
pub mod Numbers
pub mod Run
