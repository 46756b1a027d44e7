pub mod Sayings
pub mod Kept
