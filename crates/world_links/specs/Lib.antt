pub mod Flights
pub mod Moves
pub mod Ends
pub mod Links
