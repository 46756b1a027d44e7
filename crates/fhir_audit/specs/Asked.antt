-- Which profiles are asked about, and what they rest on (FHIR R4, StructureDefinition, derivation and baseDefinition).
use Rattle.std.specs.Prelude.{◌≡◌, ◌↔◌, ◌<◌, ℕ, List, [], ◌∷◌, length, Bool, ◌&&◌, Option, None, Some, is_some, IsTrue, codes, if◌then◌else◌}
use Rattle.std.specs.List.{enumerate_from, flat_map, slice_get}
use Rattle.std.specs.Option.{option_map, option_and_then}
use Rattle.std.specs.Result.{result_ok}
use Rattle.std.specs.Str.{bytes_eq}
use Rattle.fhir_json.specs.Tree.{Text, Tree}
use Rattle.fhir_json.specs.Fields.{text_in, text_at}
use Rattle.fhir_names.specs.Canonicals.{read_canonical}
use Rattle.fhir_package.specs.declared.kind.Kind.TheVariants.{StructureDefinition}
use Rattle.fhir_package.specs.Canonical.{named_by}
use Rattle.fhir_package.specs.Definitions.{Definitions, place_in}
use Rattle.fhir_findings.specs.Selecting.{is_own}

-- the definition constrains another
abbrev pub is_profile : Tree → Bool
is_profile t = bytes_eq (text_at (codes "derivation") t) (codes "constraint")

-- ---- what a definition rests on

-- the url of a canonical
abbrev pub url_named : Text → Option Text
url_named canonical = option_map (λ parts. parts.0) (result_ok (read_canonical canonical))

-- the url of the definition that a canonical names, where it is there: of its version, if it asks for one
abbrev pub base_url : Definitions → Text → Option Text
base_url p canonical = if is_some (named_by StructureDefinition canonical p) then url_named canonical else None

-- the url of what a definition rests on, where it is there
abbrev pub base_of : Definitions → Tree → Option Text
base_of p t = option_and_then (base_url p) (text_in (codes "baseDefinition") t)

-- the place of what the definition at a place rests on, where it is there
abbrev pub base_place : Definitions → ℕ → Option ℕ
base_place p place =
    option_and_then (λ e. option_and_then (λ url. place_in StructureDefinition url p) (base_of p e.1)) (slice_get p.structure_definitions place)

-- ---- which are asked about

-- The set has each definition whose url begins with one of the prefixes, and with each definition what it rests on.
pub record IsClosed (prefixes : List Text) (p : Definitions) (set : ℕ → Bool) : Type 0 where
  pub own : (place : ℕ) (e : Text × Tree) → slice_get p.structure_definitions place ≡ Some e → IsTrue (is_own prefixes e.0) → IsTrue (set place)
  pub above : (place base : ℕ) → IsTrue (set place) → base_place p place ≡ Some base → IsTrue (set base)

-- the place is in each such set
abbrev pub IsAsked : List Text → Definitions → ℕ → Type 0
IsAsked prefixes p place = (set : ℕ → Bool) → IsClosed prefixes p set → IsTrue (set place)

-- The set has the definitions that are asked about: all, where there are no prefixes; else the least such set.
abbrev pub AreAsked : List Text → Definitions → (ℕ → Bool) → Type 0
AreAsked [] p set = (place : ℕ) → place < length p.structure_definitions → IsTrue (set place)
AreAsked (prefix ∷ prefixes) p set =
    (place : ℕ) → place < length p.structure_definitions → IsTrue (set place) ↔ IsAsked (prefix ∷ prefixes) p place

-- a place, and the url and the tree of the definition there
abbrev pub Placed : Type 0
Placed = ℕ × (Text × Tree)

-- the one there, if it is of a set, and a profile
abbrev pub profile_in : (ℕ → Bool) → Placed → List Placed
profile_in set e = if set e.0 && is_profile e.1.1 then e ∷ [] else []

-- those of a set that are profiles, in order
abbrev pub profiles_in : (ℕ → Bool) → Definitions → List Placed
profiles_in set p = flat_map (profile_in set) (enumerate_from 0 p.structure_definitions)
