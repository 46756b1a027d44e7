pub mod Comparing
pub mod Decimals
pub mod Equality
pub mod Kin
pub mod Paths
pub mod Precedence
pub mod Primitives
pub mod Versions
