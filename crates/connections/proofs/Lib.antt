pub mod DeskLemmas
pub mod HearLemmas
