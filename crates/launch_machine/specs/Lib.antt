pub mod Answers
pub mod Clerk
pub mod Intent
pub mod Machine
pub mod Next
pub mod Starts
pub mod Versions
