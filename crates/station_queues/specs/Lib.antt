pub mod Bodies
pub mod FirstEnd
pub mod Expiring
pub mod BodiesInPool
pub mod Frames
pub mod Sizes
