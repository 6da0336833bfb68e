pub mod Walks
pub mod Messages
pub mod Reader
pub mod Laws
pub mod PathSteps
