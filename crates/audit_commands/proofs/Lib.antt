pub mod Audited
mod Beside
