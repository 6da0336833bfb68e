pub mod Counts
pub mod DatagramStories
mod SendStories
