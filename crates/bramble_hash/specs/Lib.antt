pub mod Blake2b
pub mod Parts
