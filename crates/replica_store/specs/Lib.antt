pub mod Faults
pub mod Files
pub mod Kept
pub mod Made
pub mod Store
