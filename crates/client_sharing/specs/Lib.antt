pub mod Bodies
pub mod Targets
pub mod Stances
