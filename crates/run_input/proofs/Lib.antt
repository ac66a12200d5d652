pub mod TextLemmas
pub mod VerdictLemmas
