pub mod Table
pub mod Due
pub mod Queues
pub mod Turns
pub mod Contacts
