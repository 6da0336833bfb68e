pub mod WordsRead
pub mod RoundTrip
pub mod Ranges
mod HexValues
mod HexLanes
