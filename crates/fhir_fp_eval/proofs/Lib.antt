pub mod Heights
pub mod Kept
pub mod At
pub mod Faulty
pub mod Filtering
pub mod Spines
pub mod Visits
