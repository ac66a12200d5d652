mod CommandLemmas
mod LineLemmas
pub mod CutLemmas
pub mod OperandLemmas
pub mod UniqueLemmas
