pub mod Compacting
pub mod Items
pub mod Paging
pub mod Planning
pub mod Writing
pub mod Cited
pub mod Faults
