pub mod Beginnings
pub mod StateLemmas
pub mod StepLemmas
pub mod NamingLemmas
pub mod ReaderLemmas
pub mod RowLemmas
pub mod UpkeepLemmas
