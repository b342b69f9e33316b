mod SettleLemmas
mod AnswerLemmas
mod LeaveLemmas
mod LinkLemmas
mod InputLemmas
pub mod BegunLemmas
pub mod WayLemmas
pub mod LifeLemmas
