pub mod Play
pub mod Watch
