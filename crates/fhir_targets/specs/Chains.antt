-- Chains of bases that come by the definition of a type (used by private contracts alone).
use Rattle.std.specs.Prelude.{◌≡◌, ℕ, List, length, Bool, false, ◌||◌, Option, None, Some, is_some, IsTrue}
use Rattle.std.specs.Borrow.{Bor}
use Rattle.std.specs.BTreeMap.{BTreeMap, get_by}
use Rattle.std.specs.Option.{option_map}
use Rattle.std.specs.Ordering.{nat_cmp}
use Rattle.std.specs.Str.{bytes_eq}
use Rattle.fhir_json.specs.Tree.{Text}
use Rattle.fhir_definition.specs.Definition.{Definition}
use Rattle.fhir_nodes.specs.Types.{type_place, names_resource}
use Rattle.fhir_schema.specs.Covers.{meets_within}

-- the code that a place has
abbrev pub code_at : BTreeMap ℕ (Bor Text) → ℕ → Option Text
code_at places place = option_map (λ code. code.now) (get_by (nat_cmp place) places)

-- these codes, and one more
abbrev pub with_code : Text → (Text → Bool) → Text → Bool
with_code code codes c = codes c || bytes_eq c code

-- the code is one of these, and of a type of resources, by whose definition the chain of bases from a place comes
pub record IsReaching (ds : List Definition) (codes : Text → Bool) (place : ℕ) (code : Text) : Type 0 where
  pub named : IsTrue (codes code)
  pub resource : IsTrue (names_resource ds code)
  pub goal : ℕ
  pub at : type_place ds code ≡ Some goal
  pub steps : ℕ
  pub meets : IsTrue (meets_within ds goal steps (Some place))

-- each place with a code reaches its type, and the definitions of these codes' types, as far as they are of resources, have codes
pub record AreReaching (ds : List Definition) (codes : Text → Bool) (at : ℕ → Option Text) : Type 0 where
  pub each : (place : ℕ) (code : Text) → at place ≡ Some code → IsReaching ds codes place code
  pub all : (code : Text) (goal : ℕ) → IsTrue (codes code) → IsTrue (names_resource ds code) → type_place ds code ≡ Some goal
      → IsTrue (is_some (at goal))

-- the code is reached from a place, or none is
abbrev pub IsAnswer : List Definition → (Text → Bool) → ℕ → Option Text → Type 0
IsAnswer ds codes start (Some code) = IsReaching ds codes start code
IsAnswer ds codes start None = (code : Text) (goal : ℕ) → IsTrue (codes code) → IsTrue (names_resource ds code)
    → type_place ds code ≡ Some goal → meets_within ds goal (length ds) (Some start) ≡ false
