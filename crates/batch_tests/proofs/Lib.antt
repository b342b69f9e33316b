mod Authored
mod Due
mod Arrivals
