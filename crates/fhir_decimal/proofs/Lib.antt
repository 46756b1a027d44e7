pub mod Steps
pub mod Texts
pub mod Digits
pub mod Order
pub mod Same
pub mod Counting
pub mod Whole
