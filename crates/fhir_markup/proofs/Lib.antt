-- Lemmas on pages.
pub mod Without
pub mod Marked
pub mod Shown
pub mod Growing
