pub mod Asked
pub mod Fits
pub mod Fitting
pub mod Launched
pub mod Parts
pub mod Readings
pub mod Settled
