pub mod Faults
pub mod Migrating
pub mod Copying
pub mod Cited
pub mod Starting
