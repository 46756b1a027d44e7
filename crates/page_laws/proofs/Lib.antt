-- Lemmas on pages.
pub mod Clean
