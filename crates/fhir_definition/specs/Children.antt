-- Which elements of a snapshot are the children of each, and which are its slices, by their places.
use Rattle.std.specs.Prelude.{ℕ, zero, suc, List, [], ◌∷◌, map, length, Option, if◌then◌else◌}
use Rattle.fhir_elements.specs.Element.{Element}
use Rattle.fhir_definition.specs.Snapshot.{is_at, child_place, slice_place}

-- the places of those that stand under p, where ups are the places under which the elements stand
abbrev pub under_from : ℕ → ℕ → List (Option ℕ) → List ℕ
under_from p i [] = []
under_from p i (up ∷ ups) = if is_at p up then i ∷ under_from p (suc i) ups else under_from p (suc i) ups

-- the same for each of n places from p on
abbrev pub under_each_from : ℕ → ℕ → List (Option ℕ) → List (List ℕ)
under_each_from p zero ups = []
under_each_from p (suc n) ups = under_from p 0 ups ∷ under_each_from (suc p) n ups

abbrev pub under_each : List (Option ℕ) → List (List ℕ)
under_each ups = under_each_from 0 (length ups) ups

abbrev pub children_of : List Element → List (List ℕ)
children_of es = under_each (map (child_place es) es)

abbrev pub slices_of : List Element → List (List ℕ)
slices_of es = under_each (map (slice_place es) es)
