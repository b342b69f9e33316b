pub mod Needs
pub mod Help
