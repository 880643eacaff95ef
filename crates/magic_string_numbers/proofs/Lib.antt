pub mod Numbers
pub mod Cuts
