pub mod Text
pub mod Input
