pub mod Worlds
pub mod Views
pub mod Literals
pub mod Meaning
pub mod Spines
pub mod Paths
pub mod Example
