mod Agreeing
pub mod Lists
pub mod Carrying
mod Hanging
pub mod Asked
pub mod ByAsks
mod Standing
pub mod Sequenced
pub mod Stepping
pub mod Placing
pub mod Seen
pub mod KidAt
mod Refuted
