mod Finding
mod Reading
pub mod Placing
mod Resolved
mod Right
mod SeenThere
