pub mod Keys
pub mod Messages
pub mod Faults
pub mod Sessions
pub mod Tags
pub mod Laws
