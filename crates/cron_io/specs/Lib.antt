pub mod Faults
pub mod Lines
pub mod Memory
pub mod Number
pub mod Reading
pub mod Standard
pub mod Views
pub mod Writing
