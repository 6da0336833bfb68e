pub mod WholePlans
pub mod SealedUnits
pub mod Acceptance
pub mod NextCounter
pub mod Contents
pub mod HeardUnits
pub mod Deliveries
pub mod SentDatagrams
pub mod Routes
pub mod RouteArrivals
pub mod AnyOrder
pub mod PieceByPiece
pub mod Requests
pub mod OfferedRoutes
pub mod Seeking
pub mod Messages
pub mod RequestRoutes
pub mod Replies
pub mod ReplyRoutes
pub mod Finding
pub mod UnitFates
pub mod SendFates
pub mod PieceFates
pub mod BodyFates
pub mod StationReceipts
pub mod DeliveryFates
pub mod HeardDatagrams
pub mod PiecesHeard
pub mod StationUps
pub mod SendEvents
pub mod TickEvents
pub mod Events
pub mod Silence
pub mod NodeUps
pub mod MuteEvents
pub mod EventReports
pub mod HeldKept
pub mod HeldEvents
pub mod HeldElsewhere
pub mod HeardKept
pub mod ReachKept
pub mod NodeFates
pub mod ComesFates
pub mod ReachFails
pub mod HaltsSaid
pub mod EventFates
pub mod FlightsKept
pub mod PieceReceipts
pub mod PieceArrivals
pub mod BroadcastFates
mod PlainFrames
mod PlainComings
mod PlainPlans
mod FirstPackets
mod NetworkPackets
mod MeterSteps
mod CoordinatorSteps
mod NodesHear
mod Courses
mod AirJoinings
mod Commands
mod AgentSteps
mod AgentEvents
mod AgentJoinings
mod PlainCosts
