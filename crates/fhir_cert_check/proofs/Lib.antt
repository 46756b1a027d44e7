pub mod Orders
pub mod First
pub mod Answered
pub mod Within
pub mod Constrained
mod Sequenced
pub mod Sliced
pub mod Typed
pub mod Keeping
pub mod Certified
pub mod Promised
pub mod Spelled
pub mod Repeated
pub mod Looking
pub mod OfNodes
pub mod Entailed
pub mod Alike
