pub mod Behind
mod Fields
pub mod OfKinds
pub mod Finding
pub mod Walk
pub mod Steps
pub mod Parts
mod Judging
