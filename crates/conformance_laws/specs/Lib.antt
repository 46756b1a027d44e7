pub mod Ancestors
pub mod Asked
pub mod Contained
pub mod Fields
pub mod Heads
pub mod Paths
pub mod Versions
