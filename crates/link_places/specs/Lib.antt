pub mod Places
pub mod Waking
pub mod Flapping
