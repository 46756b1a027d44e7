pub mod Asking
pub mod Steps
pub mod Example
pub mod Settling
