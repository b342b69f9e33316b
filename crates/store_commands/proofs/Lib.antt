pub mod Lines
mod Places
pub mod Passing
pub mod Looks
pub mod Adds
pub mod Working
pub mod Stopped
pub mod Follow
pub mod EntryLemmas
pub mod Commits
pub mod Loads
pub mod Serving
pub mod Sessions
pub mod Posts
pub mod Begins
pub mod Stood
mod Migrates
pub mod Compacts
pub mod Errands
mod Alone
