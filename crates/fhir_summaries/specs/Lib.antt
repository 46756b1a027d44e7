pub mod Summaries
pub mod ResourceTypes
