pub mod EntryLemmas
pub mod PacketLemmas
pub mod MemberLemmas
pub mod PlaceLemmas
pub mod PutLemmas
pub mod RowLemmas
pub mod VoteLemmas
