-- What keys reach in a package: the least set that holds them, and what is named by each definition that one of its keys stands for.
use Rattle.std.specs.Prelude.{List, [], ◌∷◌, ◌++◌, map, filter, Bool, ◌&&◌, IsTrue, codes, if◌then◌else◌}
use Rattle.std.specs.Option.{option_map_or}
use Rattle.std.specs.List.{list_any, flat_map}
use Rattle.std.specs.Str.{bytes_eq}
use Rattle.fhir_json.specs.Tree.{Text, Tree}
use Rattle.fhir_json.specs.Fields.{text_at}
use Rattle.fhir_package.specs.declared.kind.Kind.{Kind}
use Rattle.fhir_package.specs.declared.kind.Kind.TheVariants.{StructureDefinition, ValueSet, CodeSystem}
use Rattle.fhir_package.specs.Definitions.{ByUrl, Definitions, of_kind, at_url}
use Rattle.fhir_package.specs.Packing.{Definition}
use Rattle.fhir_definition.specs.Head.{is_type_definition}
use Rattle.fhir_reach.specs.Keys.{KeyValue, of_url, of_code, has_key}
use Rattle.fhir_reach.specs.Naming.{structure_keys, value_set_keys}

-- ---- what the definitions of a key name

-- a definition of the type of that code
abbrev pub is_type_of : Text → Tree → Bool
is_type_of code t = is_type_definition t && bytes_eq code (text_at (codes "type") t)

abbrev pub types_of : Text → ByUrl → List Tree
types_of code es = map (λ e. e.1) (filter (λ e. is_type_of code e.1) es)

abbrev pub named_by : Definitions → KeyValue → List KeyValue
named_by p (of_url url) = option_map_or structure_keys (at_url StructureDefinition url p) [] ++ option_map_or value_set_keys (at_url ValueSet url p) []
named_by p (of_code code) = flat_map structure_keys (types_of code p.structure_definitions)

-- ---- the keys that are reached

module _ (p : Definitions) (start : List KeyValue) where
  -- the set holds the start, and what is named by the definitions of each of its keys
  pub record IsClosed (holds : KeyValue → Bool) : Type 0 where
    pub starts : (k : KeyValue) → IsTrue (has_key start k) → IsTrue (holds k)
    pub follows : (k : KeyValue) → IsTrue (holds k) → (other : KeyValue) → IsTrue (has_key (named_by p k) other) → IsTrue (holds other)

  -- the keys are such a set, and the least
  pub record IsReach (keys : List KeyValue) : Type 0 where
    pub closed : IsClosed (has_key keys)
    pub least : (holds : KeyValue → Bool) → IsClosed holds → (k : KeyValue) → IsTrue (has_key keys k) → IsTrue (holds k)

-- ---- the definitions for which keys stand

-- the keys that stand for a definition: its url, and the code of the type that it defines
abbrev pub type_code_keys : Kind → Tree → List KeyValue
type_code_keys StructureDefinition t = if is_type_definition t then of_code (text_at (codes "type") t) ∷ [] else []
type_code_keys ValueSet t = []
type_code_keys CodeSystem t = []

abbrev pub keys_of : Kind → Text → Tree → List KeyValue
keys_of kind url t = of_url url ∷ type_code_keys kind t

abbrev pub is_held : List KeyValue → Kind → Text → Tree → Bool
is_held keys kind url t = list_any (has_key keys) (keys_of kind url t)

abbrev pub held_of : List KeyValue → Kind → ByUrl → ByUrl
held_of keys kind es = filter (λ e. is_held keys kind e.0 e.1) es

-- the definitions for which the keys stand, in order
abbrev pub restrict : Definitions → List KeyValue → Definitions
restrict p keys = record {
  structure_definitions = held_of keys StructureDefinition p.structure_definitions;
  value_sets = held_of keys ValueSet p.value_sets;
  code_systems = held_of keys CodeSystem p.code_systems;
}

-- ---- changes

-- the keys that stand for the definitions of a kind at a url
abbrev pub keys_at : Kind → Text → Definitions → List KeyValue
keys_at kind url p = flat_map (λ e. keys_of kind e.0 e.1) (filter (λ e. bytes_eq url e.0) (of_kind kind p))

-- those of the first definition of a kind at a url
abbrev pub first_keys : Kind → Text → Definitions → List KeyValue
first_keys kind url p = option_map_or (λ t. keys_of kind url t) (at_url kind url p) []

-- those of a definition that is put in, and of the one whose place it takes
abbrev pub put_keys : Definition → Definitions → List KeyValue
put_keys d p = keys_of d.kind d.url d.tree ++ first_keys d.kind d.url p

-- those of all that are put in
abbrev pub all_put_keys : List Definition → Definitions → List KeyValue
all_put_keys ds p = flat_map (λ d. put_keys d p) ds

-- those of the definitions of a url, of each kind
abbrev pub removed_keys : Text → Definitions → List KeyValue
removed_keys url p = keys_at StructureDefinition url p ++ (keys_at ValueSet url p ++ keys_at CodeSystem url p)
