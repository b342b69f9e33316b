pub mod Due
pub mod Cells
pub mod Sets
