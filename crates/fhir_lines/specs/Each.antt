-- The lines on several things, one after the other.
use Rattle.std.specs.Prelude.{◌≡◌, List, [], ◌∷◌, ◌++◌}
use Rattle.fhir_json.specs.Tree.{Text}

module _ {A : Type 0} (AreOn : A → List Text → Type 0) where
  -- those on each, in order, and nothing else
  abbrev pub AreOnEach : List A → List Text → Type 0
  AreOnEach [] ls = ls ≡ []
  AreOnEach (x ∷ xs) ls = (own more : List Text) × (ls ≡ own ++ more) × AreOn x own × AreOnEach xs more
