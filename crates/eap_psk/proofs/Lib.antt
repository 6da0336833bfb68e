pub mod Blocks
pub mod Fronts
pub mod Named
pub mod PassedMessages
pub mod Relations
pub mod Same
pub mod PacketOctets
pub mod PacketSizes
