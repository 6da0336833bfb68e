pub mod StepsOn
pub mod LogSteps
pub mod LogPlans
pub mod LogsKept
pub mod Histories
