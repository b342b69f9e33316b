pub mod Sides
pub mod Keeping
pub mod FirstIds
mod Brought
pub mod Fronts
pub mod Copied
pub mod Errors
mod All
pub mod Shut
pub mod Gathers
mod Begun
pub mod Published
mod Migrated
pub mod Own
pub mod Back
mod Filled
