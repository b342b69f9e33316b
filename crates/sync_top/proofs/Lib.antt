pub mod StateLemmas
mod ServeLemmas
pub mod UndamagedLemmas
pub mod HeadlineLemmas
pub mod SoundLemmas
mod CompleteRuns
mod CompleteLemmas
mod LookLemmas
