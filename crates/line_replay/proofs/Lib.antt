mod AnswerLines
mod DrillLoops
mod Inside
mod QuietReports
mod Replayed
mod ReportLines
mod ReportedOctets
mod DriverRuns
mod EventTurns
pub mod Flies
pub mod HexTexts
