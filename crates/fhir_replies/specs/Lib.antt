pub mod Standing
pub mod Judging
pub mod Outcomes
pub mod Deriving
