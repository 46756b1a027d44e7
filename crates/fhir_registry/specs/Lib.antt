pub mod Session
pub mod Keeping
pub mod Lines
pub mod Sound
