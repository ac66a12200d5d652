pub mod CalendarLemmas
pub mod MonthLemmas
pub mod RunLemmas
pub mod SameZone
pub mod StampLemmas
pub mod VerdictLemmas
pub mod ZoneLemmas
pub mod SteadyLemmas
