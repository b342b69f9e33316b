mod IdBytes
pub mod IdLengths
pub mod Same
