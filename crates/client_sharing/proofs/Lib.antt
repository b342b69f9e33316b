mod Spelled
mod Naming
