pub mod Equality
pub mod Fitting
pub mod Places
