-- Lemmas on pieces.
pub mod Listings
