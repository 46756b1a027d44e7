pub mod Promising
pub mod Told
