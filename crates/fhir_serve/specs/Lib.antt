pub mod Lines
pub mod Reading
pub mod Answered
pub mod Serving
pub mod Ending
