pub mod Codes
pub mod Drills
pub mod Replay
pub mod Shown
pub mod Texts
pub mod Tool
pub mod VectorsText
