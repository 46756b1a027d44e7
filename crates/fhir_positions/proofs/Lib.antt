pub mod Standing
pub mod Counting
pub mod Lexed
pub mod Found
pub mod Whole
pub mod Among
pub mod Chosen
