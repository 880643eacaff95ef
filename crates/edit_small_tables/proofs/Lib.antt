pub mod Trying
pub mod Small
