pub mod Trees
pub mod Threads
pub mod Gathered
