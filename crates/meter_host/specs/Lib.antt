pub mod LoadedRecords
pub mod Refusals
pub mod CallEffects
pub mod ItemCalls
pub mod ProgramRuns
