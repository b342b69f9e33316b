pub mod Notices
pub mod Connections
pub mod Hearing
pub mod Telling
pub mod Desks
pub mod Laws
