mod MemoryLemmas
mod ReadingLemmas
mod WritingLemmas
pub mod LawLemmas
pub mod LineLemmas
pub mod ListLemmas
pub mod NumberLemmas
