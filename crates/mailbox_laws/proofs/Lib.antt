pub mod Tests
pub mod Standing
pub mod Reading
pub mod Ends
