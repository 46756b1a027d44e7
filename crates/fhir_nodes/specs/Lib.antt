pub mod Types
pub mod Urls
pub mod Slots
pub mod Contents
pub mod Tables
pub mod Expressions
pub mod Readings
pub mod Holders
