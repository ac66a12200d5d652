mod OptionLemmas
mod WishLemmas
pub mod WordLemmas
