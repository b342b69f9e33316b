pub mod Staying
pub mod Sessions
