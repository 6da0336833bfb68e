pub mod Messages
pub mod Reader
pub mod Agents
pub mod History
pub mod Laws
