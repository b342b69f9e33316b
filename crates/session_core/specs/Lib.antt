pub mod Known
pub mod Links
pub mod Slots
pub mod Taking
