pub mod Lengths
pub mod Parts
pub mod RoundTrip
