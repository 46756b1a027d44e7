pub mod Judgements
pub mod Coding
pub mod Issues
pub mod Judging
pub mod Layouts
pub mod Listing
pub mod Needed
pub mod Verdicts
