pub mod SaveLemmas
