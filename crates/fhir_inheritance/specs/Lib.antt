pub mod Keys
pub mod Lists
pub mod Named
pub mod Elements
pub mod Sources
pub mod Node
pub mod Laying
pub mod Inheriting
