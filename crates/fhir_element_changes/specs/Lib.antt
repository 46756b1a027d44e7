pub mod Changes
pub mod Tables
pub mod Views
