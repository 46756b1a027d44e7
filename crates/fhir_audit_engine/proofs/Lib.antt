-- Lemmas on what an audit promises.
mod Promised
pub mod Ended
pub mod Rechecked
