pub mod Bases
pub mod Children
pub mod Types
pub mod Standing
