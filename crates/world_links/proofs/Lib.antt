pub mod FlightLaws
pub mod EndLaws
