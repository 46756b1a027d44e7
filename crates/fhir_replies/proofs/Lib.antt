pub mod Items
pub mod Standings
pub mod Told
