pub mod Shown
pub mod History
pub mod Posted
pub mod Change
pub mod Naming
pub mod Sight
pub mod Writing
pub mod Upkeep
