mod Absorbing
mod Apart
