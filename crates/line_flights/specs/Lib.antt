pub mod Flights
pub mod Flown
pub mod KeptFlights
pub mod SpelledTags
