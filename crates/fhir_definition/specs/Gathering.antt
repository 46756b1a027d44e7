-- Places put into lists one after another.
use Rattle.std.specs.Prelude.{ℕ, List, [], ◌∷◌, ◌++◌, get_or, set, Option, None, Some}

abbrev pub put_at : Option ℕ → ℕ → List (List ℕ) → List (List ℕ)
put_at None place lists = lists
put_at (Some at) place lists = set lists at (get_or lists at [] ++ place ∷ [])
