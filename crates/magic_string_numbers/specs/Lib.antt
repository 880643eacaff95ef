pub mod Listed
pub mod Cuts
