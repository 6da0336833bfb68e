pub mod Histories
mod DistinctNeighbours
mod AckSpellings
mod WorkedHistories
