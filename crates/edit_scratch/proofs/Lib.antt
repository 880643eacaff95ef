pub mod Counting
pub mod Tables
pub mod Front
pub mod Refused
