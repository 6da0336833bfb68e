mod Words
mod Drops
mod Numbers
mod PlainEvents
mod QuietEvents
mod Ends
pub mod Keepings
pub mod KeptRuns
mod Waits
mod Numbered
mod Fates
pub mod FateRuns
mod StoryCores
mod Dones
mod DoneStories
pub mod DoneRuns
