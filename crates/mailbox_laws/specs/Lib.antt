pub mod Effects
pub mod Boxes
pub mod Order
