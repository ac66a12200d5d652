pub mod Barred
pub mod Continues
pub mod Readings
pub mod Whole
