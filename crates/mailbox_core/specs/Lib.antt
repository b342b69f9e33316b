pub mod Together
pub mod Taking
pub mod Files
pub mod Reading
pub mod Sending
pub mod Steps
pub mod Laws
