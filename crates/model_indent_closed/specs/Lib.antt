pub mod Indent
