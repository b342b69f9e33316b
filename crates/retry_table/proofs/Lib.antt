pub mod BlockLaws
pub mod ContactLaws
pub mod Follows
pub mod SoonerQueues
pub mod Listing
pub mod Said
pub mod WantedIds
pub mod Expiries
