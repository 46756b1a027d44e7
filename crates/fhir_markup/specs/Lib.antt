pub mod Markup
pub mod Reading
pub mod Views
