pub mod Segment
pub mod Before
pub mod Place
pub mod Moving
