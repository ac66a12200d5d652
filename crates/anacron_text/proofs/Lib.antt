pub mod AnswerLemmas
pub mod ChoiceLemmas
pub mod JobLemmas
pub mod LogicalLemmas
pub mod ReaderLemmas
pub mod SettingLemmas
pub mod SettingsLemmas
pub mod SpacedLemmas
