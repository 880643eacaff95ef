pub mod Zones
pub mod Taking
pub mod Sparing
pub mod ByKind
mod Outside
pub mod Marked
pub mod Upto
mod Walks
mod Judging
