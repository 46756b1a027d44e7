pub mod Sides
pub mod Members
pub mod Laws
pub mod Fits
pub mod PlaceMaps
