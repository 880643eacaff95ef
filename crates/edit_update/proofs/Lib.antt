pub mod UpdateTests
pub mod InPlace
