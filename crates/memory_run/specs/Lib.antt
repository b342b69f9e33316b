pub mod Opens
pub mod Ran
