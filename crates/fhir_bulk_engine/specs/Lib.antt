pub mod Ending
pub mod Bulk
