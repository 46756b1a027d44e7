pub mod Reading
pub mod Answering
pub mod Promising
pub mod Ending
pub mod Refusing
pub mod Agreeing
pub mod Serving
pub mod Gathers
