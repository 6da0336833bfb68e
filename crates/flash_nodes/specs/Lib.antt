pub mod Openings
pub mod Lives
