pub mod Draft
pub mod Letters
