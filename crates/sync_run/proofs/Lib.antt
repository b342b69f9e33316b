mod CourseParts
mod CauseLaws
mod StandsLaws
mod TellLaws
pub mod LeavingLaws
mod EndLaws
mod HeardLaws
mod DialLaws
mod RestLaws
mod WordLaws
mod RunActs
mod DialActs
mod RanLaws
