pub mod Fields
pub mod KeyRing
pub mod KeyBook
pub mod Laws
