mod Early
mod Taken
mod Sent
