pub mod Positions
pub mod Lexing
pub mod Values
pub mod Among
