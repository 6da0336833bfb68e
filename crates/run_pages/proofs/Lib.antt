pub mod PageNests
pub mod PageText
