-- What a narrower fixed value or pattern holds of, a wider one does.
use Rattle.std.proofs.Common.{Bool, true, false, ◌&&◌, Option, Some, None, if◌then◌else◌, IsTrue, refl}
use Rattle.std.specs.Option.{option_map_or}
use Rattle.std.proofs.lemmas.Bool.{and_parts, and_from}
use Rattle.fhir_json.specs.Tree.{Tree}
use Rattle.fhir_matching.specs.Equality.{equal}
use Rattle.fhir_matching.specs.Fitting.{fits}
use Rattle.fhir_facets.specs.Seen.{Seen}
use Rattle.fhir_facets.specs.Values.{is_alone, fixed_holds, fixed_narrower, pattern_holds, pattern_narrower, fixed_fits}

-- a test of what may be missing
pub mapped : {A : Type 0} (p q : A → Bool) (r : Option A) (d e : Bool) → ((a : A) → IsTrue (p a) → IsTrue (q a)) → (IsTrue d → IsTrue e)
    → IsTrue (option_map_or p r d) → IsTrue (option_map_or q r e)
mapped p q None d e some none h = none h
mapped p q (Some a) d e some none h = some a h

pub kept_if : (b s t : Bool) → (IsTrue s → IsTrue t) → IsTrue (if b then s else true) → IsTrue (if b then t else true)
kept_if true s t f h = f h
kept_if false s t f h = refl

module _ (equals : (t u v : Tree) → IsTrue (equal t u) → IsTrue (equal u v) → IsTrue (equal t v))
    (fitting : (t u v : Tree) → IsTrue (fits t u) → IsTrue (fits u v) → IsTrue (fits t v))
    (of_equals : (t u : Tree) → IsTrue (equal t u) → IsTrue (fits u t)) where
  pub fixed_kept : (value base : Tree) (x : Seen) → IsTrue (fixed_narrower value base) → IsTrue (fixed_holds value x) → IsTrue (fixed_holds base x)
  fixed_kept value base x narrow =
      mapped (λ json. equal value json && is_alone x json) (λ json. equal base json && is_alone x json) x.json false false
      (λ json h. let both = and_parts (equal value json) (is_alone x json) h in and_from _ _ (equals base value json narrow both.0) both.1)
      (λ h. h)

  pub pattern_kept : (pattern base : Tree) (x : Seen) → IsTrue (pattern_narrower pattern base) → IsTrue (pattern_holds pattern x)
      → IsTrue (pattern_holds base x)
  pattern_kept pattern base x narrow =
      mapped (λ json. fits json pattern) (λ json. fits json base) x.json false false (λ json h. fitting json pattern base h narrow) (λ h. h)

  pub fitted_kept : (value pattern : Tree) (x : Seen) → IsTrue (fixed_fits value pattern) → IsTrue (fixed_holds value x)
      → IsTrue (pattern_holds pattern x)
  fitted_kept value pattern x fit =
      mapped (λ json. equal value json && is_alone x json) (λ json. fits json pattern) x.json false false
      (λ json h. fitting json value pattern (of_equals value json (and_parts (equal value json) (is_alone x json) h).0) fit)
      (λ h. h)
