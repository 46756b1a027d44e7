mod Keeping
mod Hearing
