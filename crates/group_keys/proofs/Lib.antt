pub mod Rings
pub mod Books
pub mod EntryPuts
