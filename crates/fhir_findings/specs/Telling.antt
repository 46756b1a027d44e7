-- Words that the contracts of private functions alone cite: what is told, as one item more is told.
use Rattle.std.specs.Prelude.{◌+◌, List, [], ◌∷◌, map, if◌then◌else◌}
use Rattle.fhir_json.specs.Tree.{Text}
use Rattle.fhir_findings.specs.Firsts.{have_one_text}
use Rattle.fhir_findings.specs.Once.{Told}

module _ {A : Type 0} (text : A → Text) where
  abbrev pub texts_told : List (Told A) → List Text
  texts_told ts = map (λ t. text t.first) ts

  -- it is counted where its text is told, and else told behind the others
  abbrev pub with_one : List (Told A) → A → List (Told A)
  with_one [] x = record { first = x; count = 1 } ∷ []
  with_one (t ∷ ts) x = if have_one_text text x t.first then record t { count = t.count + 1 } ∷ ts else t ∷ with_one ts x
