-- Lemmas on the pieces of a page.
pub mod Names
