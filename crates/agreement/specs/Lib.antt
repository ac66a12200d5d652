pub mod Agree
pub mod Log
pub mod Transition
pub mod World
