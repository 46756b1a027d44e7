pub mod Progress
pub mod Given
pub mod Example
