-- Lemmas on lines.
pub mod Shown
pub mod OnEach
