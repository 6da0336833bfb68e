pub mod Counting
pub mod Tabling
