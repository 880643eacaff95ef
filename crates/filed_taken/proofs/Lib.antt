pub mod Judging
pub mod Says
