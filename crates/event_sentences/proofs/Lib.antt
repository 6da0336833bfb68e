pub mod TrueOnce
pub mod SameRoutes
pub mod InsertedAgain
