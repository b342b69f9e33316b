pub mod StayLemmas
