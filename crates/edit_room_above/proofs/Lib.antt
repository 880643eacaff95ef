pub mod Passing
pub mod Lengthening
pub mod Longer
pub mod Finishing
pub mod Apart
pub mod Bounds
