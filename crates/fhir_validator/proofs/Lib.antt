pub mod Asking
mod Concluding
mod Explained
mod Faults
mod Judged
mod Kids
mod Measures
mod Needing
mod Pairs
mod Raising
mod Resting
mod Rows
mod Told
mod Unsettled
mod Whole
