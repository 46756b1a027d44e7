pub mod Belonging
pub mod Bindings
pub mod Contained
pub mod Ordering
pub mod Ranges
pub mod Targets
pub mod Typing
pub mod Usable
