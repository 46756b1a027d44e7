mod KnownLemmas
mod Steps
mod Members
mod Told
