pub mod Least
pub mod Nodes
