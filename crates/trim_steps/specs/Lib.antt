pub mod Model
pub mod Side
pub mod Both
