pub mod Served
mod Putting
