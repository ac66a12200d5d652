pub mod Change
pub mod Faults
pub mod Kept
pub mod Node
pub mod Reliable
pub mod Stopped
