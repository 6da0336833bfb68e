pub mod Calls
pub mod Answers
pub mod Items
pub mod ItemReader
pub mod Outbox
