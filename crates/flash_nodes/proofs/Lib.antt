mod DecidedCuts
mod DecidedCalls
mod Lives
