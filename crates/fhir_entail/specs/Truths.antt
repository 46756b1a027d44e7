-- What is promised of total expressions and of what is entailed.
use Rattle.std.specs.Prelude.{◌≡◌, List, Ok}
use Rattle.fhir_fp_syntax.specs.Expression.{Expression}
use Rattle.fhir_fp_values.specs.Values.{Plain}
use Rattle.fhir_fp_eval.specs.Worlds.{World}
use Rattle.fhir_fp_values.specs.Equality.{Kleene}
use Rattle.fhir_fp_eval.specs.Meaning.{◌>>=◌, den, truth_of}

-- the expression has a result there, which is no fault
abbrev pub HasResult : World → Expression → Plain → Type 0
HasResult w e x = (vs : List Plain) × (den w e x ≡ Ok vs)

-- and the truth of that result is no fault either: it is true, false or none
abbrev pub HasTruth : World → Expression → Plain → Type 0
HasTruth w e x = (p : Kleene) × ((den w e x >>= truth_of) ≡ Ok p)
