pub mod Numbers
pub mod Parents
pub mod Places
pub mod Gathers
pub mod Walked
pub mod Replies
