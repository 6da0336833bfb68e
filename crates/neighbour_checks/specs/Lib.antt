pub mod Acks
pub mod Neighbours
pub mod History
pub mod Laws
