pub mod PathLaws
pub mod Paths
pub mod OneWalk
pub mod SortedWalk
pub mod Counts
pub mod Ranks
pub mod Placing
pub mod Passing
