pub mod EachOnce
pub mod Judged
pub mod Loaded
