pub mod Total
pub mod Same
pub mod Entailment
pub mod Truths
pub mod Numbers
pub mod Known
