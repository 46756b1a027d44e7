pub mod Refused
pub mod Owned
pub mod Said
pub mod Turns
pub mod Lost
pub mod Outcomes
pub mod Numbered
