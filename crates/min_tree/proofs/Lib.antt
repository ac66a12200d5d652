pub mod ClimbLemmas
pub mod DescentLemmas
pub mod LeafLemmas
pub mod LeastLemmas
pub mod LesserLemmas
pub mod NodeLemmas
