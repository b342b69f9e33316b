pub mod Account
pub mod Batches
pub mod Brief
pub mod Laws
