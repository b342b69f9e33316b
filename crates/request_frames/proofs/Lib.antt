mod Numbers
mod Heads
mod Streams
mod Stages
mod Spelled
mod Hearing
