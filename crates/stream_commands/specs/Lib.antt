pub mod RecordText
pub mod Input
pub mod Plays
pub mod Streams
