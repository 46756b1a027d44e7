pub mod Objects
pub mod Members
pub mod Unrecognized
pub mod Views
pub mod Examples
