-- Concepts (FHIR R4, Using Codes in Resources): a code in the system that defines it; and finite sets of them.
use Rattle.std.specs.Prelude.{List, [], ◌∷◌, map, Bool}
use Rattle.std.specs.List.{list_any}
use Rattle.std.specs.Str.{bytes_eq}
use Rattle.std.specs.declared.cmp.Ordering.{Ordering}
use Rattle.std.specs.Ordering.{nat_cmp, ordering_then}
use Rattle.std.specs.Cmp.Lexicographic.{slice_cmp}
use Rattle.std.specs.FinSet as set
use Rattle.fhir_json.specs.Tree.{Text}

pub record Concept : Type 0 where
  pub system : Text
  pub code : Text

abbrev pub concept : Text → Text → Concept
concept system code = record { system = system; code = code }

-- by the code, then by the system, so that the concepts of one code stand together
abbrev pub concept_cmp : Concept → Concept → Ordering
concept_cmp x y = ordering_then (slice_cmp nat_cmp x.code y.code) (slice_cmp nat_cmp x.system y.system)

-- a finite set of concepts
abbrev pub Concepts : Type 0
Concepts = set.FinSet concept_cmp

-- those of a system with these codes
abbrev pub of_system : Text → List Text → Concepts
of_system system codes = set.from_list (map (concept system) codes)

-- those that are in one of the sets
abbrev pub union_of : List Concepts → Concepts
union_of [] = set.empty
union_of (s ∷ ss) = set.union s (union_of ss)

-- those that are in all of the sets, of which there is one at least
abbrev pub common : List Concepts → Concepts
common [] = set.empty
common (s ∷ []) = s
common (s ∷ t ∷ ss) = set.intersection s (common (t ∷ ss))

-- some concept of the set has the code, whatever its system
abbrev pub has_code : Text → Concepts → Bool
has_code code s = list_any (λ c. bytes_eq code c.code) (set.items s)
