pub mod Blocks
pub mod Reader
pub mod Laws
