pub mod Lift
pub mod Cuts
pub mod Says
