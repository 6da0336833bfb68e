pub mod Ranks
pub mod OwnNumber
pub mod RoutingSet
pub mod RouteEnds
pub mod FirstEnd
pub mod Histories
pub mod Laws
