mod ByKind
mod Counting
mod Room
