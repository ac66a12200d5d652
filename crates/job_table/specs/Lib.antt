pub mod Collect
pub mod Jobs
pub mod Marks
pub mod Names
pub mod Table
pub mod Versions
pub mod Zones
