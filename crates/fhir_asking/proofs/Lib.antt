pub mod Chains
pub mod Maps
pub mod Lists
pub mod Marks
pub mod Tables
pub mod Turning
pub mod Meaning
