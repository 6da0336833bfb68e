mod ComputedScripts
pub mod HopScripts
pub mod RankScripts
pub mod PieceScripts
pub mod WaitingScripts
pub mod FrameScripts
pub mod JoiningScripts
pub mod WayScripts
pub mod KeyScripts
pub mod StoreScripts
pub mod CallScripts
pub mod FurtherScripts
pub mod ArrivalScripts
pub mod DiscoveryScripts
pub mod FateScripts
pub mod AdmissionScripts
pub mod PlainScripts
