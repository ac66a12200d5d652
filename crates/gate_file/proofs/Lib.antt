pub mod AppendLemmas
pub mod AttachLemmas
pub mod FaultLemmas
pub mod GateLemmas
pub mod MadeLemmas
pub mod ReadLemmas
pub mod RewriteLemmas
