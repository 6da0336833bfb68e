mod SentencesTrue
pub mod Checks
pub mod CheckedRuns
pub mod CheckSteps
pub mod Turns
pub mod BadBound
pub mod Captured
pub mod Explained
pub mod ShownNodes
pub mod Machines
pub mod PageNests
pub mod Paged
pub mod Recorded
pub mod StatusNames
pub mod Tabled
pub mod Told
mod DatagramVerdicts
