pub mod Heights
pub mod ByName
pub mod Sorted
pub mod Pairing
pub mod Ordered
pub mod OneKey
pub mod Tables
