mod Filling
mod Weighing
mod Spelled
mod Sections
mod Lengths
mod Named
mod Adding
pub mod Counted
mod Working
mod Pages
mod Holding
mod Own
mod Publishing
mod Limits
