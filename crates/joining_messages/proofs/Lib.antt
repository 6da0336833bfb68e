pub mod Rests
pub mod Spellings
pub mod GrantLaws
pub mod Readings
pub mod GrantReadings
pub mod JoinOctets
pub mod JoinRanges
