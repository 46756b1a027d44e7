-- What a package is behind a change of one definition, and which packages have nothing but sound definitions.
use Rattle.std.specs.Prelude.{◌≡◌, ℕ, List, [], ◌∷◌, filter, slice_get, slice_set, Bool, true, false, not, ◌||◌, ◌&&◌, Option, None, Some, is_some, if◌then◌else◌, All}
use Rattle.std.specs.Option.{option_map_or}
use Rattle.std.specs.List.{IsDistinct, list_any}
use Rattle.std.specs.Map.{keys_of}
use Rattle.std.specs.Str.{bytes_eq}
use Rattle.fhir_json.specs.Tree.{Text, Tree}
use Rattle.fhir_json.specs.Sound.{sound}
use Rattle.fhir_package.specs.declared.kind.Kind.{Kind}
use Rattle.fhir_package.specs.declared.kind.Kind.TheVariants.{StructureDefinition, ValueSet, CodeSystem}
use Rattle.fhir_package.specs.Definitions.{ByUrl, Definitions, of_kind, with_kind, at_url}
use Rattle.fhir_package.specs.Packing.{Definition, definition_of}

-- the definition that a tree is, where the tree is sound
abbrev pub sound_definition : Tree → Option Definition
sound_definition t = if sound t then definition_of t else None

-- ---- trees under their urls

-- the tree in place of the one under that url, or behind the others where there is none
abbrev pub put_at : Text → Tree → ByUrl → ByUrl
put_at url t [] = (url, t) ∷ []
put_at url t (e ∷ es) = if bytes_eq url e.0 then (e.0, t) ∷ es else e ∷ put_at url t es

-- all but those under that url
abbrev pub without_url : Text → ByUrl → ByUrl
without_url url es = filter (λ e. not (bytes_eq url e.0)) es

-- the tree in place of the one at that place, under the same url
abbrev pub with_tree_at : ℕ → Tree → ByUrl → ByUrl
with_tree_at place t es = option_map_or (λ e. slice_set es place (e.0, t)) (slice_get es place) es

-- ---- packages

-- a definition in place of the one of its kind and url, or behind the others of its kind
abbrev pub put_in : Definition → Definitions → Definitions
put_in d p = with_kind d.kind (put_at d.url d.tree (of_kind d.kind p)) p

-- definitions put in, one after the other
abbrev pub put_each : List Definition → Definitions → Definitions
put_each [] p = p
put_each (d ∷ ds) p = put_each ds (put_in d p)

-- of each kind all definitions but those of that url
abbrev pub without : Text → Definitions → Definitions
without url p = record {
  structure_definitions = without_url url p.structure_definitions;
  value_sets = without_url url p.value_sets;
  code_systems = without_url url p.code_systems;
}

abbrev pub has : Kind → Text → Definitions → Bool
has kind url p = is_some (at_url kind url p)

-- a definition of some kind has that url
abbrev pub has_url : Text → Definitions → Bool
has_url url p = has StructureDefinition url p || has ValueSet url p || has CodeSystem url p

-- the tree in place of the one at that place of the kind, under the same url
abbrev pub with_tree : Kind → ℕ → Tree → Definitions → Definitions
with_tree kind place t p = with_kind kind (with_tree_at place t (of_kind kind p)) p

-- ---- definitions of one kind and url

abbrev pub is_same_kind : Kind → Kind → Bool
is_same_kind StructureDefinition StructureDefinition = true
is_same_kind ValueSet ValueSet = true
is_same_kind CodeSystem CodeSystem = true
is_same_kind kind other = false

-- they are of one kind and url
abbrev pub is_same : Definition → Definition → Bool
is_same d e = is_same_kind d.kind e.kind && bytes_eq d.url e.url

-- two of them are of one kind and url
abbrev pub has_twice : List Definition → Bool
has_twice [] = false
has_twice (d ∷ ds) = list_any (is_same d) ds || has_twice ds

-- ---- sound packages

-- the tree is the sound definition of that kind and its url
abbrev pub IsSoundEntry : Kind → Text × Tree → Type 0
IsSoundEntry kind e = sound_definition e.1 ≡ Some (record { kind = kind; url = e.0; tree = e.1 })

-- of each kind each tree is the sound definition of that kind and its url
abbrev pub AreSound : Definitions → Type 0
AreSound p = (kind : Kind) → All (IsSoundEntry kind) (of_kind kind p)

-- no url comes twice in a kind
abbrev pub EachOnce : Definitions → Type 0
EachOnce p = (kind : Kind) → IsDistinct bytes_eq (keys_of (of_kind kind p))
