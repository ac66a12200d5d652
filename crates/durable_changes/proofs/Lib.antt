pub mod Again
pub mod Altering
pub mod Changes
pub mod Honest
