pub mod Remarks
pub mod Counts
pub mod NodeCounts
pub mod NodeTables
pub mod Reasons
pub mod Pages
pub mod Laws
