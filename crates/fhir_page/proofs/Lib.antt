-- Lemmas on the page of an audit.
pub mod Sections
pub mod Pages
