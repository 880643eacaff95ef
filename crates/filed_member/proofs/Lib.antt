pub mod Unrefuted
pub mod Desks
pub mod Steps
pub mod DeskCalls
pub mod RecordCalls
pub mod Theorem
