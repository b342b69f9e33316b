pub mod Inputs
pub mod Settling
pub mod Requests
pub mod Leaving
pub mod Ways
pub mod Serving
