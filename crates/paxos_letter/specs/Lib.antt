pub mod Copies
pub mod Decoding
pub mod Fields
pub mod Groups
pub mod Kinds
pub mod Letters
pub mod Rules
pub mod Spelling
