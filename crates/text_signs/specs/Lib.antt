pub mod Quotes
pub mod Signs
