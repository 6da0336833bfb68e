pub mod Runs
pub mod LogPuts
pub mod Spellings
pub mod ReopenedLogs
