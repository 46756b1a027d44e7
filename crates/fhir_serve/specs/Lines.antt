-- The lines of a text.
use Rattle.std.specs.Prelude.{◌≡◌, ℕ, List, [], ◌∷◌, ◌++◌, ◌==◌, if◌then◌else◌}

-- the byte, and then the lines: it begins the first of them, or is a line where there is none
abbrev pub begun_with : ℕ → List (List ℕ) → List (List ℕ)
begun_with b [] = (b ∷ []) ∷ []
begun_with b (line ∷ lines) = (b ∷ line) ∷ lines

-- what stands before each line feed, without it, and what stands behind the last, if anything does
abbrev pub lines_of : List ℕ → List (List ℕ)
lines_of [] = []
lines_of (b ∷ bs) = if b == 10 then [] ∷ lines_of bs else begun_with b (lines_of bs)

-- the lines are the first ones of others
abbrev pub AreFirst : List (List ℕ) → List (List ℕ) → Type 0
AreFirst lines others = (more : List (List ℕ)) × (others ≡ lines ++ more)
