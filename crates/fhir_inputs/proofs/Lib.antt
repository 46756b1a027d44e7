pub mod Told
pub mod Gone
