pub mod Once
pub mod Claims
