mod CutLemmas
mod LineLemmas
mod PartLemmas
mod ReadLemmas
pub mod SplitLemmas
pub mod TextLemmas
