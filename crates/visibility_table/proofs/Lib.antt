pub mod Pairs
pub mod Groups
mod Distinct
mod Fronts
