pub mod Commands
pub mod Fresh
pub mod Runs
pub mod SettledLemmas
pub mod Starts
pub mod Taken
pub mod WatchedParts
pub mod Watching
