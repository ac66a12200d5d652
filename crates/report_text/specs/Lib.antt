pub mod Book
pub mod Counts
pub mod Listing
pub mod Report
pub mod Writes
