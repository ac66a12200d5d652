pub mod Held
pub mod Names
pub mod Calls
pub mod Fates
