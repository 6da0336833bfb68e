mod WalkOctets
pub mod Readings
pub mod Steps
