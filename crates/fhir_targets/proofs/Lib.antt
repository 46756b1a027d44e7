mod Taking
mod Sets
mod Climbing
mod Reaching
mod Covered
