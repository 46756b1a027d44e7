pub mod Commands
pub mod Hashing
pub mod Replies
