pub mod Text
pub mod Reading
pub mod Value
pub mod Views
pub mod Rows
pub mod Whole
pub mod Numbers
