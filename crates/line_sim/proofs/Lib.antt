pub mod Firsts
mod Orders
pub mod Recordings
mod Remarks
pub mod Scripts
pub mod WrittenScripts
