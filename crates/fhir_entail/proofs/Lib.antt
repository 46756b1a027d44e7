pub mod Unlike
pub mod Listed
pub mod Alike
pub mod Faultless
pub mod Truthful
pub mod Numbered
pub mod Knowing
