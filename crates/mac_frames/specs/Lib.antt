pub mod Grammar
pub mod Faults
pub mod Reader
pub mod SealedFrames
pub mod Control
pub mod Sent
pub mod Laws
