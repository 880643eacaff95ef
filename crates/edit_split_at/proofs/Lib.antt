pub mod Cuts
pub mod Lift
pub mod Says
