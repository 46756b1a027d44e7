pub mod Archives
pub mod Views
pub mod Known
pub mod Telling
