pub mod CountLemmas
mod FormLemmas
mod LineLemmas
mod SpacedLemmas
mod TurnLemmas
pub mod UniqueLine
mod UniqueTurn
