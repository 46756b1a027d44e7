pub mod Digits
pub mod Keys
