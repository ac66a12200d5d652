pub mod Commit
pub mod Counts
pub mod Heard
pub mod Lines
pub mod Outcome
pub mod Replica
pub mod Step
