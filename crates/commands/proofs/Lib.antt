pub mod PlaceLemmas
pub mod LinkLemmas
