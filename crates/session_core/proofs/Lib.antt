pub mod Arrived
mod Counting
mod Cut
mod First
mod Greatest
pub mod Unknown
