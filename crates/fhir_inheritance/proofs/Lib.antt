pub mod Maps
pub mod Grouped
pub mod Listed
pub mod Keeping
pub mod Paths
pub mod Sourced
