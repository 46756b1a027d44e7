mod Lists
mod Whole
mod Entries
mod Found
mod Composed
mod Rooted
mod Beneath
mod Coded
