pub mod BatchLaws
pub mod Journals
mod Writable
mod AllowedIds
mod Places
mod HeldNames
pub mod Named
mod Counts
mod TakeCounts
mod AccountParts
mod Entries
pub mod FormatKinds
pub mod LawProofs
mod Bounds
mod Parts
mod Payloads
mod Readers
mod ReadSteps
mod WriteSteps
pub mod Growing
pub mod FrontLaws
pub mod Standings
pub mod OneStanding
