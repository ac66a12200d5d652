pub mod CheckText
pub mod DueText
pub mod Listing
pub mod Parts
