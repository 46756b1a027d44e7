pub mod Verdicts
pub mod Judgements
pub mod Views
pub mod Questions
pub mod Telling
