pub mod Keys
pub mod Naming
pub mod Reach
pub mod Search
pub mod Starting
pub mod Places
