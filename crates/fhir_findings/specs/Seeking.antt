-- Words that the contracts of private functions alone cite: constraints that are looked up among those that are told.
use Rattle.std.specs.Prelude.{◌≡◌, ℕ, zero, suc, ◌==◌, List, [], ◌∷◌, Option, None, Some, if◌then◌else◌}
use Rattle.std.specs.List.{slice_get}
use Rattle.std.specs.Option.{option_and_then, option_or}
use Rattle.fhir_json.specs.Tree.{Text}
use Rattle.fhir_names.specs.Places.{Places, place_of}
use Rattle.fhir_findings.specs.Carrying.{Carrier}
use Rattle.fhir_findings.specs.Sentences.{Wording, said_of, first_said, constraint_named}

-- what a constraint says, if it is the one that is carried
abbrev pub said_for : Carrier → Wording → Option Text
said_for c w = option_and_then (λ n. said_of n.0 n.1 w) (constraint_named c)

-- the place under a constraint's expression, or under its key where it has none
abbrev pub place_under : Places → Places → Text → Option Text → Option ℕ
place_under expressions keys key None = place_of keys key
place_under expressions keys key (Some text) = place_of expressions text

-- that of the constraint that is carried
abbrev pub own_place : Places → Places → Carrier → Option ℕ
own_place expressions keys c = option_and_then (λ n. place_under expressions keys n.0 n.1) (constraint_named c)

-- what a constraint says is kept at a place for the carrier there, unless something is kept
abbrev pub kept_at : List Carrier → List (Option Text) → ℕ → Wording → List (Option Text)
kept_at [] found place w = found
kept_at (c ∷ cs) [] place w = []
kept_at (c ∷ cs) (kept ∷ found) zero w = option_or kept (said_for c w) ∷ found
kept_at (c ∷ cs) (kept ∷ found) (suc place) w = kept ∷ kept_at cs found place w

-- what is found at a place, if it is its own
abbrev pub found_at : Option ℕ → List (Option Text) → ℕ → Option (Option Text)
found_at None found place = None
found_at (Some own) found place = if own == place then slice_get found place else None

-- each carrier whose constraint has its own place has there what the first of some constraints says
abbrev pub AreSaid : Places → Places → List Carrier → List (Option Text) → List Wording → Type 0
AreSaid expressions keys cs found ws =
    (k : ℕ) (c : Carrier) → slice_get cs k ≡ Some c → own_place expressions keys c ≡ Some k → slice_get found k ≡ Some (first_said (said_for c) ws)
