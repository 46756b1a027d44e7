mod Alike
mod Ends
mod Chains
mod Keeping
mod KeptBounds
mod KeptTargets
mod KeptBindings
mod Among
pub mod Sequences
mod Halves
pub mod Ordered
pub mod KeptOrder
mod Readings
mod Itself
