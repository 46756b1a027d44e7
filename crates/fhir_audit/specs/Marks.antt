-- Words that the contracts of private functions alone cite: which definitions are marked.
use Rattle.std.specs.Prelude.{◌≡◌, ◌⊎◌, ℕ, List, Bool, false, get_or, Option, None, Some, IsTrue}
use Rattle.std.specs.List.{slice_get}
use Rattle.std.specs.Option.{option_map_or}
use Rattle.fhir_json.specs.Tree.{Text}
use Rattle.fhir_package.specs.Definitions.{Definitions}
use Rattle.fhir_findings.specs.Selecting.{is_own}
use Rattle.fhir_audit.specs.Asked.{base_place}

abbrev pub marked : List Bool → ℕ → Bool
marked marks place = get_or marks place false

-- the place is marked, or lies behind the marks
abbrev pub IsMarked : List Bool → ℕ → Type 0
IsMarked marks place = IsTrue (marked marks place)

-- what is asked for next, if something is
abbrev pub IsNext : Option ℕ → ℕ → Type 0
IsNext at place = at ≡ Some place

-- With each definition that is marked what it rests on is, or is next.
abbrev pub RestsWithin : Definitions → List Bool → Option ℕ → Type 0
RestsWithin p marks at =
    (place base : ℕ) → IsMarked marks place → base_place p place ≡ Some base → IsMarked marks base ⊎ IsNext at base

-- Each set that is closed upwards and has the old marks and a place has the new ones.
abbrev pub AreWithin : Definitions → List Bool → ℕ → List Bool → Type 0
AreWithin p old from new =
    (set : ℕ → Bool) → ((place base : ℕ) → IsTrue (set place) → base_place p place ≡ Some base → IsTrue (set base))
    → ((place : ℕ) → IsMarked old place → IsTrue (set place)) → IsTrue (set from)
    → (place : ℕ) → IsMarked new place → IsTrue (set place)

-- Nothing is marked no more; where the place is taken it is marked, and only what lies above it; and with each mark what it rests on still is.
pub record IsTaken (p : Definitions) (is_own : Bool) (from : ℕ) (old new : List Bool) : Type 0 where
  pub kept : (place : ℕ) → IsMarked old place → IsMarked new place
  pub own : IsTrue is_own → IsMarked new from
  pub none : is_own ≡ false → new ≡ old
  pub within : AreWithin p old from new
  pub rests : RestsWithin p old None → RestsWithin p new None

-- the url of the definition at a place begins with one of the prefixes
abbrev pub is_own_at : List Text → Definitions → ℕ → Bool
is_own_at prefixes p place = option_map_or (λ e. is_own prefixes e.0) (slice_get p.structure_definitions place) false
