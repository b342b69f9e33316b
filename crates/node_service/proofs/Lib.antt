mod WordLemmas
mod EarLemmas
mod TellLemmas
mod LifeLemmas
