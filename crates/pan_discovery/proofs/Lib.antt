mod Readings
mod Orders
mod AgentOrder
mod AgentPlaces
pub mod Histories
mod Worked
