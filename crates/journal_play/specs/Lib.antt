pub mod Texts
pub mod Playing
pub mod Fates
pub mod Keeping
pub mod Holding
