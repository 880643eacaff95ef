pub mod Refusals
pub mod Results
pub mod Frozen
