mod CutLemmas
mod ListLemmas
mod PhraseLemmas
mod PartLemmas
mod SectionLemmas
mod ScriptLemmas
mod StepLemmas
mod TableLemmas
mod VersionLemmas
mod WindowLemmas
mod WordLemmas
mod ZoneLemmas
mod OffsetLemmas
pub mod AnacrontabLemmas
pub mod CountLemmas
pub mod FrameLemmas
pub mod SoundLemmas
pub mod UniqueLemmas
pub mod VariantLemmas
pub mod ZoneNames
