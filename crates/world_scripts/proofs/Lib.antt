pub mod CutLemmas
pub mod WordLemmas
pub mod PostLemmas
pub mod LabelLists
pub mod DeviceLemmas
pub mod LabelLemmas
pub mod CourseLemmas
pub mod Generated
