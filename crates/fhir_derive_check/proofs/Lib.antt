pub mod Same
pub mod Found
mod One
mod Greatest
mod Asking
mod Queued
mod Pruned
mod Spare
mod Blamed
mod Ways
pub mod Rooted
mod Certified
