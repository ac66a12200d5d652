pub mod Seat
pub mod Scene
