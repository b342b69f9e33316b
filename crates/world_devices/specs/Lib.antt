pub mod Cited
pub mod Keeping
pub mod Devices
pub mod Refusals
pub mod Brought
pub mod Running
pub mod Linking
pub mod Doing
