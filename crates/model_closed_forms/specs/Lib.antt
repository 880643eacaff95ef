pub mod Plan
pub mod Spans
pub mod SplitAt
pub mod Accepted
pub mod RunClosed
