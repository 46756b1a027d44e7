pub mod Losing
pub mod Comparing
pub mod Owns
pub mod Views
