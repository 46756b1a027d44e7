pub mod Counting
pub mod Rows
pub mod Texts
pub mod Running
