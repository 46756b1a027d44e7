pub mod Unread
pub mod Sayings
pub mod Listing
pub mod Standing
pub mod Given
pub mod Seen
