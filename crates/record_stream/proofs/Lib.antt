mod Hearing
mod Steps
