pub mod Difference
pub mod Parts
pub mod Readable
pub mod Steps
