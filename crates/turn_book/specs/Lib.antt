pub mod Lending
pub mod Rested
pub mod Rows
pub mod Rule
pub mod Steps
pub mod Turns
pub mod Views
