-- Tables of concepts under numbers. What a value set is found to have is kept as the number of its table, so that sets with
-- one table are told to be one by their numbers (used by private contracts alone).
use Rattle.std.specs.Prelude.{◌≡◌, ℕ, List, map, length, Bool, true, Option, unwrap_or, nat_lt}
use Rattle.std.specs.Option.{option_map_or, option_and_then}
use Rattle.std.specs.List.{slice_get, list_any, list_all}
use Rattle.std.specs.FinSet as set
use Rattle.fhir_json.specs.Tree.{Text}
use Rattle.fhir_package.specs.Definitions.{Definitions}
use Rattle.fhir_codes.specs.Concepts.{Concepts, common}
use Rattle.fhir_codes.specs.Placing.{Found, found_concepts}

-- a package, the tables that have been made, and for each value set the number of its own, if its concepts have been found
pub record Tabled : Type 0 where
  pub definitions : Definitions
  pub tables : List Concepts
  pub numbers : List (Option ℕ)

-- the table of a number
abbrev pub table_at : List Concepts → ℕ → Concepts
table_at tables number = unwrap_or (slice_get tables number) set.empty

-- what is in all tables of these numbers
abbrev pub in_tables : List Concepts → List ℕ → Concepts
in_tables tables numbers = common (map (table_at tables) numbers)

-- no number is past the tables
abbrev pub is_number : List Concepts → Option ℕ → Bool
is_number tables number = option_map_or (λ n. nat_lt n (length tables)) number true

abbrev pub AreNumbers : List Concepts → List (Option ℕ) → Type 0
AreNumbers tables numbers = list_all (is_number tables) numbers ≡ true

-- what has been found so far
abbrev pub found : Tabled → Found
found s = map (option_and_then (slice_get s.tables)) s.numbers

abbrev pub known_in : Tabled → Text → Option Concepts
known_in s canonical = found_concepts s.definitions (found s) canonical

-- the two lists have the same sets, in any order and however often
abbrev pub SameSets : List Concepts → List Concepts → Type 0
SameSets xs ys = (test : Concepts → Bool) → list_any test xs ≡ list_any test ys
