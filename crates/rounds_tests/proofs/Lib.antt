pub mod Played
pub mod VersionLemmas
