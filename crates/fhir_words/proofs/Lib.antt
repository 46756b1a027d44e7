-- Lemmas on words.
pub mod Among
