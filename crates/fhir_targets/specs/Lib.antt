pub mod Texts
pub mod Chains
pub mod Base
