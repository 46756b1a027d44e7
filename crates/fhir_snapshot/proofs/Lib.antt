pub mod Texts
pub mod Ordered
pub mod Snapshotting
pub mod Refused
pub mod Known
pub mod Planned
pub mod Completed
