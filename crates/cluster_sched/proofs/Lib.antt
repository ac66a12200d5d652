pub mod FateLemmas
pub mod ArrivalLemmas
pub mod LedgerLemmas
pub mod NameLemmas
pub mod StampLemmas
pub mod HeldLemmas
pub mod RoomLemmas
