mod BreakingOff
mod Follow
mod LineLaws
mod TakenOctets
pub mod Turned
mod Turns
mod Windows
