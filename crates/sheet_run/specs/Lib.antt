pub mod Steps
pub mod RanAll
pub mod SheetRan
