pub mod BigEndian
pub mod Record
pub mod Sheet
pub mod Worked
