pub mod Cuts
pub mod Answers
pub mod Forms
pub mod Courses
pub mod Scripts
pub mod Labels
pub mod Generator
