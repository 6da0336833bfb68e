pub mod Ends
pub mod Fates
pub mod Keepings
pub mod KeptRuns
pub mod Dones
