-- Texts and what they have been read as (used by private contracts alone).
use Rattle.std.specs.Prelude.{◌≡◌, List, map, Vec, Option, Some, IfSome, ℕ}
use Rattle.std.specs.Option.{option_map, option_and_then}
use Rattle.std.specs.List.{slice_get}
use Rattle.std.specs.declared.rc.Rc.{Rc}
use Rattle.std.specs.Rc.{rc_value}
use Rattle.fhir_names.specs.Places.{Places, place_of}
use Rattle.fhir_json.specs.Tree.{Text}
use Rattle.fhir_fp_syntax.specs.Expression.{Expression}
use Rattle.fhir_fp_syntax.specs.Reading.{expression_in}
use Rattle.fhir_fp_syntax.specs.Views.{parsed_seen}
use Rattle.fhir_fp_syntax.specs.declared.parsing.Parsed.{Parsed}

module _ {Z : Type 0} where
  abbrev pub reading_seen : Rc Parsed Z → Option Expression
  reading_seen r = parsed_seen (rc_value r)

  -- of a constraint that may have no text
  abbrev pub shared_shown : Option (Rc Parsed Z) → Option Parsed
  shared_shown reading = option_map rc_value reading

  abbrev pub shared_seen : Option (Rc Parsed Z) → Option Expression
  shared_seen reading = option_and_then parsed_seen (shared_shown reading)

  -- what was read of each constraint of each element of each definition
  abbrev pub lists_shown : List (Vec (Vec (Option (Rc Parsed Z)) Z) Z) → List (List (List (Option Parsed)))
  lists_shown lists = map (λ v. map (λ w. map shared_shown w.items) v.items) lists

  -- the expressions of each constraint of each element of each definition
  abbrev pub lists_read : List (Vec (Vec (Option (Rc Parsed Z)) Z) Z) → List (List (List (Option Expression)))
  lists_read lists = map (λ v. map (λ w. map shared_seen w.items) v.items) lists

  abbrev pub readings_seen : List (Rc Parsed Z) → List (Option Expression)
  readings_seen read = map reading_seen read

-- the expressions of what was read
abbrev pub lists_seen : List (List (List (Option Parsed))) → List (List (List (Option Expression)))
lists_seen lists = map (map (map (option_and_then parsed_seen))) lists

-- each text that has a place has been read there as what it is
abbrev pub AreRight : Places → List (Option Expression) → Type 0
AreRight places read = (text : Text) → IfSome (place_of places text) (λ p. slice_get read p ≡ Some (expression_in text))

-- ---- look-ups in the lists

abbrev pub shared_at : List (Option Expression) → ℕ → Option Expression
shared_at es i = option_and_then (λ e. e) (slice_get es i)

abbrev pub listed_at : List (List (Option Expression)) → ℕ → ℕ → Option Expression
listed_at lists element i = option_and_then (λ es. shared_at es i) (slice_get lists element)

abbrev pub found_at : List (List (List (Option Expression))) → ℕ → ℕ → ℕ → Option Expression
found_at lists definition element i = option_and_then (λ ls. listed_at ls element i) (slice_get lists definition)

-- what was read there
abbrev pub parsed_in : List (Option Parsed) → ℕ → Option Parsed
parsed_in rs i = option_and_then (λ r. r) (slice_get rs i)

abbrev pub parsed_under : List (List (Option Parsed)) → ℕ → ℕ → Option Parsed
parsed_under lists element i = option_and_then (λ rs. parsed_in rs i) (slice_get lists element)

abbrev pub parsed_at : List (List (List (Option Parsed))) → ℕ → ℕ → ℕ → Option Parsed
parsed_at lists definition element i = option_and_then (λ ls. parsed_under ls element i) (slice_get lists definition)
