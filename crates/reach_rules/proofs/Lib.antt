mod AsWithout
mod HandingOn
mod Commands
mod CheckedReceptions
mod Once
mod ComputedScripts
mod ReachScripts
mod ReachCases
