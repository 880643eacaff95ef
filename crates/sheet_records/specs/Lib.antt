pub mod Kinds
pub mod Found
pub mod SheetFound
