pub mod Folders
pub mod Directories
pub mod Memory
