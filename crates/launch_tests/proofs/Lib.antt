pub mod LimitLemmas
pub mod VersionLemmas
