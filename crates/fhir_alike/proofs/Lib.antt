pub mod Fresh
pub mod Rests
pub mod Tails
pub mod Users
pub mod Told
pub mod Spreads
pub mod Kept
pub mod Differs
