pub mod Sound
pub mod Sizes
pub mod DroppedItems
pub mod Letters
pub mod Leaves
pub mod FirstEnds
mod ExpiringNotes
