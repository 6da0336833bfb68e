pub mod Runs
pub mod Ends
pub mod QuietLines
pub mod Causes
mod WrittenTexts
