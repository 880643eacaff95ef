pub mod Addition
