pub mod Words
pub mod Ears
pub mod Lives
pub mod Serving
pub mod Outputs
