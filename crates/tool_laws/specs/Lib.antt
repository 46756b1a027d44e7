pub mod Archives
pub mod Gathering
pub mod Names
pub mod Questions
pub mod Trees
