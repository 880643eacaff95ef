pub mod Rfc3629
pub mod Chars
pub mod WhiteSpace
pub mod Ascii
pub mod Abnf
pub mod Width
