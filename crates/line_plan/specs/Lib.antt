pub mod Plans
pub mod Unknowns
pub mod Descriptions
pub mod Options
pub mod OptionDescriptions
