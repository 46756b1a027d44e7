pub mod Typing
pub mod Parts
pub mod Regular
pub mod Along
pub mod Children
pub mod Contradictions
pub mod Listing
pub mod Texts
