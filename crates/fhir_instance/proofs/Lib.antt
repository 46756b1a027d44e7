pub mod Meanings
pub mod Nearby
pub mod Looking
pub mod Ordered
pub mod Spots
pub mod Joining
pub mod Walking
pub mod NamedItems
