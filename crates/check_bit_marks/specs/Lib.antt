pub mod BitMarks
