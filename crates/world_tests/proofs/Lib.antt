pub mod Kept
pub mod Left
pub mod Goes
pub mod Scenes
