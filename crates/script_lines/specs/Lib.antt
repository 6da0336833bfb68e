pub mod Lines
pub mod Windows
pub mod Next
pub mod Outcomes
pub mod Clauses
