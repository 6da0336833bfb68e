pub mod Messages
pub mod Faults
pub mod Grants
pub mod Reader
pub mod Laws
