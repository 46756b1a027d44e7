pub mod Derived
pub mod Countered
pub mod Judging
pub mod LinesRead
pub mod OnALine
pub mod Sessions
