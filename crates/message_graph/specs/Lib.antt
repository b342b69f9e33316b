pub mod Nodes
pub mod Waits
pub mod Links
pub mod Whole
