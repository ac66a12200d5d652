pub mod Journal
pub mod Line
pub mod Starts
pub mod Summary
pub mod Told
