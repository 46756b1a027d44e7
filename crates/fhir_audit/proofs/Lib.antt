-- Lemmas on audits.
mod Climbing
mod Groups
mod Narrowing
mod Listing
mod Said
