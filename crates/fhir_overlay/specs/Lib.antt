pub mod Overlay
pub mod Noted
pub mod Stages
pub mod Json
pub mod Completed
pub mod Writable
