-- Lemmas on the list of unread rules, and on files of texts.
pub mod Covered
pub mod Entries
pub mod Gives
pub mod Groups
pub mod HeadingTells
pub mod InsideClean
pub mod InsideTexts
pub mod Known
pub mod Once
pub mod ReadLines
pub mod Stands
pub mod Vouches
pub mod WordsTold
