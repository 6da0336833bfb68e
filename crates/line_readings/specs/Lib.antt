pub mod Readings
pub mod Spares
pub mod Tables
