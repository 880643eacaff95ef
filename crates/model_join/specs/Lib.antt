pub mod Tests
pub mod Join
pub mod Worked
