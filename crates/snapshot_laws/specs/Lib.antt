pub mod Children
pub mod Differentials
pub mod Slicings
pub mod Snapshots
pub mod Right
