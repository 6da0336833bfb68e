pub mod FlightLists
pub mod Origins
pub mod TagSpellings
mod SameKeys
