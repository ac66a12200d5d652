pub mod WritingLemmas
pub mod ReportLemmas
pub mod CountLemmas
pub mod OrderLemmas
pub mod OneOrder
pub mod ListingLemmas
pub mod CountLaws
pub mod BookLemmas
