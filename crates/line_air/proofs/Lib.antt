pub mod ChangedNodes
pub mod Ears
pub mod MappedLists
pub mod CalendarPuts
pub mod Quotients
