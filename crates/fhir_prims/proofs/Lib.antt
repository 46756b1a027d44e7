pub mod Decimals
pub mod Empty
mod Instants
mod Partial
mod Told
mod Days
mod InTime
mod ToUtc
mod Forms
mod Cuts
mod Said
mod Found
mod Once
mod Written
mod Types
mod Bounded
mod Whole
mod Undecided
