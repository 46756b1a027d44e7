-- Lemmas on findings.
pub mod Counted
pub mod Each
pub mod Faulty
pub mod Firsts
pub mod HeldKeys
pub mod Listed
pub mod Pushed
pub mod Said
pub mod Selected
pub mod Telling
pub mod Usable
pub mod Wordings
