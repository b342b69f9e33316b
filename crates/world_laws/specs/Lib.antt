pub mod Worlds
pub mod Theorem
pub mod Moves
