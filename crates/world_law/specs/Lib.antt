pub mod Book
pub mod Kept
pub mod Replicas
pub mod Rows
