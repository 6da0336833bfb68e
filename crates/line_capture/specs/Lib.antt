pub mod Captures
pub mod Comments
pub mod FateValues
pub mod Fates
pub mod Laws
pub mod Places
pub mod Profiles
pub mod Sentences
