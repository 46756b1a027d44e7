mod Parts
pub mod Kids
pub mod Turns
mod Free
mod Alone
pub mod Sliced
pub mod Settled
