pub mod CountLemmas
pub mod DifferenceLemmas
pub mod OneLemmas
pub mod ReportLemmas
