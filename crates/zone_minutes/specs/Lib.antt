pub mod Calendar
pub mod Civil
pub mod Run
pub mod Stamp
pub mod Window
pub mod Zone
pub mod Steady
