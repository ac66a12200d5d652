pub mod Faults
pub mod File
pub mod Gates
pub mod ReadFile
pub mod Made
