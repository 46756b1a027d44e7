pub mod Twos
pub mod Called
pub mod Same
