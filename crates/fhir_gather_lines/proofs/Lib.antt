-- Lemmas on what is gathered.
pub mod Equals
