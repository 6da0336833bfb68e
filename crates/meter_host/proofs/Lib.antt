pub mod LoadedSlots
pub mod Serves
