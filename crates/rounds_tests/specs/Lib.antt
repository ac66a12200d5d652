pub mod Meets
pub mod Plays
pub mod Versions
