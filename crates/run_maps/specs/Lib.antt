pub mod Links
pub mod Searches
pub mod Layouts
pub mod Ties
pub mod Routes
pub mod Maps
pub mod Laws
