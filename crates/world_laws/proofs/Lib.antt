pub mod SentNames
pub mod PlainLaws
pub mod HeardLaws
pub mod RestLaws
pub mod Steps
pub mod MoveLaws
