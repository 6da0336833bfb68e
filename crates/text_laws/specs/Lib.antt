pub mod LowerCase
pub mod ScriptLaws
pub mod ReportLines
pub mod Reports
pub mod Runs
pub mod Laws
