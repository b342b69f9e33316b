pub mod AnswerLemmas
pub mod InputLemmas
pub mod PlayLemmas
pub mod StreamLemmas
