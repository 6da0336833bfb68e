pub mod Limits
pub mod Tables
pub mod Given
pub mod Admitted
pub mod AdmissionPuts
