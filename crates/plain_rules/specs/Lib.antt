pub mod Sessions
pub mod Rows
pub mod Lines
pub mod Wants
pub mod Shares
pub mod KnownLevels
pub mod Plain
pub mod Settling
