pub mod Inputs
pub mod Going
