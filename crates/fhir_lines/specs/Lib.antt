pub mod Lines
pub mod Each
