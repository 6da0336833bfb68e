pub mod Kinds
pub mod Words
pub mod Gists
pub mod Details
pub mod Payloads
