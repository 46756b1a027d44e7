pub mod GatherLines
pub mod Counted
