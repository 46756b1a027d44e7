mod Sums
mod Lowest
mod Exponents
mod Shifted
mod OneKey
mod OneValue
pub mod Signed
