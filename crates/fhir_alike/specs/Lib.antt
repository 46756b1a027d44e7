pub mod Mark
pub mod Spreading
pub mod Profiles
pub mod Differing
pub mod Naming
pub mod ValueSets
