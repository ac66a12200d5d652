pub mod Area
pub mod Beside
pub mod Order
pub mod Places
pub mod Records
pub mod Written
