pub mod Parts
pub mod Whos
pub mod Woven
