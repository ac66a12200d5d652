pub mod Nodes
pub mod Parts
pub mod Steps
pub mod Stops
pub mod Turns
