pub mod Heard
pub mod Need
