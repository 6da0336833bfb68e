pub mod Spread
pub mod Distances
pub mod Rows
pub mod Hops
pub mod ScatteredSpots
