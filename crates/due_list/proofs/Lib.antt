pub mod DueLemmas
pub mod FaultLemmas
pub mod LawLemmas
pub mod LineLemmas
pub mod ListLemmas
pub mod SaidLemmas
pub mod WriteLemmas
