pub mod ArrayItems
mod Lines
