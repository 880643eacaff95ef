pub mod Apart
pub mod Both
pub mod Model
pub mod Numbers
pub mod Side
