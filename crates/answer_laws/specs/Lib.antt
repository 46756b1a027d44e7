pub mod Manual
pub mod Runs
pub mod Parts
pub mod Answers
pub mod Folders
