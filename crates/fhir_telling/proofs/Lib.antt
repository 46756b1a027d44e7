pub mod Owned
pub mod Parts
pub mod Pushed
pub mod Said
