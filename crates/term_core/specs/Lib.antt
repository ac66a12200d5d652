pub mod Best
pub mod Term
