mod Capitals
mod Spelled
mod Meaning
mod Told
mod Blamed
mod Distinct
