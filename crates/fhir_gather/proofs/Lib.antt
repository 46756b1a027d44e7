-- Lemmas on what is gathered and how it is written.
pub mod Firsts
pub mod Digits
pub mod Keeping
pub mod Packaged
pub mod Names
pub mod Wholes
pub mod Packed
pub mod Readings
pub mod Makings
