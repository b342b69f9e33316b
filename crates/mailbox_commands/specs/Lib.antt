pub mod Tests
pub mod Taking
pub mod Sending
pub mod Laws
