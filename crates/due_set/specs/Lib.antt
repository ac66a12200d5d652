pub mod Anacron
pub mod Calls
pub mod Day
pub mod Due
pub mod Matching
pub mod Steady
pub mod Table
