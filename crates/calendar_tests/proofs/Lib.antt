mod VersionLemmas
