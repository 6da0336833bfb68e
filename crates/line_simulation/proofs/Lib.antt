pub mod Loops
pub mod PlacedNumbers
pub mod Walks
