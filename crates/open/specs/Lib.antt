pub mod Fresh
pub mod OpenedWith
