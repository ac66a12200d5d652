pub mod Anew
pub mod Changes
