mod AnacrontabLemmas
mod CrontabLemmas
mod GatheredLemmas
mod RunLemmas
mod SectionLemmas
mod SomeLemmas
mod SoundTableLemmas
mod TableLemmas
mod VerdictLemmas
mod ZoneLemmas
pub mod DueCountLemmas
pub mod FieldLemmas
pub mod KindLemmas
pub mod JobLemmas
pub mod MarkLemmas
pub mod NameLemmas
pub mod NamedJobLemmas
pub mod OneVersionLemmas
pub mod UniqueLemmas
pub mod VariantLemmas
pub mod VersionJobLemmas
pub mod VersionMarkLemmas
pub mod VersionSectionLemmas
