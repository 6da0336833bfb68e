pub mod Grammar
pub mod Reader
pub mod NextNumber
pub mod OriginMarks
pub mod Log
pub mod Runs
pub mod Laws
