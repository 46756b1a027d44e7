-- A lemma on the tree of bases.
pub mod Shown
