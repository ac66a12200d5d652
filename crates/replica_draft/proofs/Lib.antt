pub mod AskLemmas
pub mod DraftLemmas
pub mod GroupLemmas
pub mod LeadLemmas
pub mod LetterLemmas
pub mod OneLemmas
pub mod SendLemmas
