pub mod Zipped
pub mod Grown
pub mod Headings
pub mod Clean
