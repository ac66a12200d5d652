pub mod OverMemoryLemmas
