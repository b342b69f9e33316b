pub mod Numbers
mod OwnIds
pub mod Pairs
pub mod Rows
pub mod Wants
pub mod Listed
pub mod Seen
pub mod Empty
pub mod Paired
pub mod Apart
pub mod Next
pub mod Lending
pub mod Sums
pub mod Changed
pub mod Answered
pub mod Stepped
pub mod Found
pub mod Lesser
pub mod Grown
pub mod Limited
pub mod Restored
pub mod Telling
pub mod Delivered
pub mod Made
pub mod Honest
pub mod Fated
pub mod Firsts
pub mod Tables
pub mod Kept
pub mod Took
pub mod TakenAll
pub mod Sending
pub mod Started
pub mod Plain
pub mod CanTaken
pub mod Entries
pub mod WantedIds
pub mod MarkedMore
pub mod MoreHeld
pub mod Levelled
pub mod Served
pub mod Allowed
mod Due
mod Defined
pub mod Leaving
pub mod Fronts
mod GroupsKnown
