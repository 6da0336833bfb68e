pub mod SearchRounds
pub mod Connected
pub mod Tries
