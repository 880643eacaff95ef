pub mod Call
pub mod Results
