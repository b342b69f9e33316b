mod Behind
mod Complete
mod Fronts
mod Lists
mod Parts
mod Sound
mod Streams
mod TypeBytes
