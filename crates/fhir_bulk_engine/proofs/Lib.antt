pub mod Ended
