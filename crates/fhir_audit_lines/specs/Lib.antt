pub mod Words
pub mod Naming
pub mod Counting
pub mod Telling
pub mod Trees
pub mod Held
pub mod Urls
pub mod Report
