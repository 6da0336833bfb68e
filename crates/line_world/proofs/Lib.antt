mod NodeActs
mod LentStations
mod BrokenLinks
mod MeterActs
mod Places
mod AcceptingSteps
mod HearingSteps
mod NewMeters
mod CoordinatorActs
mod CoordinatorReceptions
mod NewCoordinators
mod Orders
mod EventSteps
mod Arrivals
mod CountedSends
mod SetupSteps
pub mod FurtherPlans
pub mod BroadcastPlans
pub mod PathPlans
pub mod Besides
mod LentFurther
mod LentReaches
mod LentNodes
mod ReportedReplies
mod UnaskedReplies
mod NumberedNodes
mod FirstNodes
mod ArrivedOctets
mod Unchecked
mod HeardCommands
mod FurtherReceptions
mod Discoveries
mod Storable
mod HeardFurther
mod FurtherCalls
mod CheckedFrames
mod ReplyChecks
mod Reached
