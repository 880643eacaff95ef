pub mod RemoveTests
