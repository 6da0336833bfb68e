pub mod LogChains
pub mod Logs
