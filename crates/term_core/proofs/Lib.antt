pub mod BestLemmas
pub mod LawLemmas
