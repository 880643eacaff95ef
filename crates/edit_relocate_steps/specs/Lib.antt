pub mod Relocated
