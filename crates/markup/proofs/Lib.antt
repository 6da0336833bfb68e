pub mod Words
pub mod Contents
pub mod Plain
pub mod Markups
pub mod Pages
