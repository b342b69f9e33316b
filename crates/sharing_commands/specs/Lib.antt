pub mod Sayings
pub mod Words
pub mod Deeds
pub mod Agreement
pub mod Agreeing
pub mod Adding
pub mod SayingLaws
