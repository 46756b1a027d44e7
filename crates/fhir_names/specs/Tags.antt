-- The tags of names.
use Rattle.std.specs.Prelude.{ℕ, List, [], ◌∷◌, ◌+◌, ◌*◌, ◌%◌}

-- some number below a thousand millions and seven
abbrev pub next_tag : ℕ → ℕ → ℕ
next_tag tag byte = (tag * 257 + byte) % 1000000007

-- the tag of a name whose first bytes have this one; equal names have equal tags, and few others do
abbrev pub tag_from : ℕ → List ℕ → ℕ
tag_from tag [] = tag
tag_from tag (b ∷ bs) = tag_from (next_tag tag b) bs
