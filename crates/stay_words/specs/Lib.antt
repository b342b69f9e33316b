pub mod Limits
pub mod Asking
