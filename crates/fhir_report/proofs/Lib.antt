-- Lemmas on reports.
pub mod Carried
pub mod Placing
pub mod Saying
pub mod Told
pub mod Unrecognized
