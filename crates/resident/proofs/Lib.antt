pub mod StayLemmas
mod LinkLemmas
mod EraLemmas
mod BeginLemmas
