pub mod Pieces
pub mod Sets
pub mod Trees
pub mod Marks
pub mod Lines
pub mod Strings
pub mod Ends
