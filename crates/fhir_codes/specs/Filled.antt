-- The value sets that have been found so far are right (used by private contracts alone).
use Rattle.std.specs.Prelude.{◌≡◌, ℕ, ◌+◌, [], ◌∷◌, length, Bool, false, ◌&&◌, Option, None, Some, is_none}
use Rattle.std.specs.Option.{option_map_or, option_and_then}
use Rattle.fhir_package.specs.Definitions.{Definitions}
use Rattle.fhir_codes.specs.Concepts.{Concepts}
use Rattle.fhir_codes.specs.ValueSets.{expansion, is_read, concepts_of}
use Rattle.fhir_codes.specs.Placing.{Found, found_at, found_concepts, tree_at}

-- the concepts of the value set at a place
abbrev pub concepts_at : Definitions → ℕ → Option Concepts
concepts_at p place = option_and_then (expansion p (concepts_of p)) (tree_at p place)

-- it hasn't been found, and can be now
abbrev pub is_ready : Definitions → Found → ℕ → Bool
is_ready p sets place = is_none (found_at sets place) && option_map_or (is_read p (found_concepts p sets)) (tree_at p place) false

abbrev pub one_if_found : Option Concepts → ℕ
one_if_found None = 0
one_if_found (Some s) = 1

abbrev pub found_count : Found → ℕ
found_count [] = 0
found_count (s ∷ sets) = one_if_found s + found_count sets

-- there is a place for each value set, and what has been found is right
abbrev pub AreFilled : Definitions → Found → Type 0
AreFilled p sets =
    (length sets ≡ length p.value_sets)
    × ((place : ℕ) (s : Concepts) → found_at sets place ≡ Some s → concepts_at p place ≡ Some s)

-- nothing is left to find
abbrev pub AreDone : Definitions → Found → Type 0
AreDone p sets = (length sets ≡ length p.value_sets) × ((place : ℕ) → found_at sets place ≡ concepts_at p place)
