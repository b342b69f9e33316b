mod IdText
pub mod WordLemmas
