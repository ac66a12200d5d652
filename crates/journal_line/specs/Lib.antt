pub mod Count
pub mod InRange
pub mod Line
pub mod Spaced
pub mod Told
