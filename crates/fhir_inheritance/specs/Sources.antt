-- What snapshots are made of: the elements that each definition of a package brings (FHIR R4, StructureDefinition, snapshot
-- and differential), the definition on which it rests, and the roots of types.
use Rattle.std.specs.Prelude.{◌≡◌, ℕ, List, [], ◌∷◌, map, String, string_bytes, Bool, false, not, ◌&&◌, ◌||◌, Option, None, Some, is_some, if◌then◌else◌, codes}
use Rattle.std.specs.Option.{option_map, option_map_or, option_and_then, option_or}
use Rattle.std.specs.declared.alloc.Global.{Global}
use Rattle.std.specs.Result.{result_ok}
use Rattle.std.specs.List.{find}
use Rattle.std.specs.Map.{lookup}
use Rattle.std.specs.Str.{bytes_eq}
use Rattle.fhir_json.specs.Tree.{Text, Tree, list_of}
use Rattle.fhir_json.specs.Bytes.{is_empty}
use Rattle.fhir_json.specs.Fields.{field, text_in, text_at, items_in, is_object, is_array, as_items}
use Rattle.fhir_names.specs.Texts.{cut_at_first}
use Rattle.fhir_names.specs.Canonicals.{CanonicalParts, read_canonical}
use Rattle.fhir_elements.specs.TypeEntry.{TypeEntry}
use Rattle.fhir_elements.specs.Element.{Element, fields_of}
use Rattle.fhir_package.specs.declared.kind.Kind.TheVariants.{StructureDefinition}
use Rattle.fhir_package.specs.Definitions.{Definitions, at_url, of_kind}
use Rattle.fhir_package.specs.Canonical.{at_version}
use Rattle.fhir_definition.specs.Head.{is_type_definition}
use Rattle.fhir_definition.specs.Snapshot.{is_root}
use Rattle.fhir_inheritance.specs.Lists.{has_any}
use Rattle.fhir_inheritance.specs.Keys.{key}

-- ---- what a definition brings

-- an array of elements that is there and not empty, or no array at all
abbrev pub has_elements : Tree → Bool
has_elements t = option_map_or (λ v. not (is_array v) || has_any (list_of (as_items v))) (field (codes "element") t) false

-- a definition brings a snapshot unless it has none, or one without elements
abbrev pub brings_snapshot : Tree → Bool
brings_snapshot t = option_map_or (λ s. not (is_object s) || has_elements s) (field (codes "snapshot") t) false

-- the trees of the elements in a snapshot or a differential
abbrev pub trees_in : Text → Tree → List Tree
trees_in part t = option_map_or (items_in (codes "element")) (field part t) []

abbrev pub elements_in : Text → Tree → List Element
elements_in part t = map fields_of (trees_in part t)

-- it constrains a type, and doesn't define one
abbrev pub is_constraint : Tree → Bool
is_constraint t = bytes_eq (text_at (codes "derivation") t) (codes "constraint")

-- ---- the definition that a canonical names

abbrev pub url_of : Definitions → CanonicalParts → Option Text
url_of p r = if is_some (at_version StructureDefinition p r) then Some r.0 else None

-- its url, if it is there
abbrev pub canonical_url : Definitions → Text → Option Text
canonical_url p canonical = option_and_then (url_of p) (result_ok (read_canonical canonical))

-- ---- sources

pub record Source : Type 0 where
  -- it brings a snapshot
  pub written : Bool
  -- the url of the definition on which it rests otherwise, if that is there
  pub base : Option Text
  -- the elements of the snapshot that it brings, or else of its differential
  pub elements : List Element

abbrev pub base_of : Definitions → Tree → Option Text
base_of p t = if is_constraint t then option_and_then (canonical_url p) (text_in (codes "baseDefinition") t) else None

abbrev pub source_of : Definitions → Tree → Source
source_of p t = record {
  written = brings_snapshot t;
  base = base_of p t;
  elements = elements_in (if brings_snapshot t then codes "snapshot" else codes "differential") t;
}

abbrev pub source_at : Definitions → Text → Option Source
source_at p url = option_map (source_of p) (at_url StructureDefinition url p)

-- ---- types

-- the name of the root of a type's definition
abbrev pub root_key : Text → Tree → Option Text
root_key url t =
    if brings_snapshot t then option_map (λ e. key e.id url) (find is_root (elements_in (codes "snapshot") t)) else None

abbrev pub is_type_of : Text → Tree → Bool
is_type_of code t = is_type_definition t && bytes_eq code (text_at (codes "type") t)

-- that of the first type definition of that code that has one
abbrev pub root_key_in : List (Text × Tree) → Text → Option Text
root_key_in [] code = None
root_key_in (e ∷ es) code = option_or (if is_type_of code e.1 then root_key e.0 e.1 else None) (root_key_in es code)

abbrev pub type_key : Definitions → Text → Option Text
type_key p code = root_key_in (of_kind StructureDefinition p) code

-- that of an element's only type
abbrev pub only_type_key : Definitions → List TypeEntry → Option Text
only_type_key p (entry ∷ []) = type_key p entry.code
only_type_key p _ = None

-- ---- content references

abbrev pub hash : ℕ
hash = 35

-- the url of the definition that stands in front of `#`, in a reference of the definition of a url
abbrev pub url_in_front : Definitions → Text → Text → Option Text
url_in_front p url front = if is_empty front then Some url else canonical_url p front

-- the name of the element to which one of the definition of a url refers for its content
abbrev pub target_key : Definitions → Text → Element → Option Text
target_key p url e =
    option_and_then (λ text. option_and_then (λ cut. option_map (key cut.1) (url_in_front p url cut.0)) (cut_at_first hash text)) e.content_reference

-- ---- as they are kept

-- the name of the root, where what a definition brings is known
abbrev pub written_root_key : Text → Source → Option Text
written_root_key url source = if source.written then option_map (λ e. key e.id url) (find is_root source.elements) else None

-- names under codes
abbrev pub keys_seen : {Y : Type 0} → List (Text × String Y) → List (Text × Text)
keys_seen types = map (λ e. (e.0, string_bytes e.1)) types

-- under each url is what its definition brings, and under each code the root of its type
pub record IsRead (p : Definitions) (sources : List (Text × Source)) (types : List (Text × Text)) : Type 0 where
  pub sources_are : (url : Text) → lookup (bytes_eq url) sources ≡ source_at p url
  pub types_are : (code : Text) → lookup (bytes_eq code) types ≡ type_key p code

-- the same of the first definitions of a package
pub record AreRead (p : Definitions) (es : List (Text × Tree)) (sources : List (Text × Source)) (types : List (Text × String Global)) : Type 0 where
  pub sources_are : (url : Text) → lookup (bytes_eq url) sources ≡ option_map (source_of p) (lookup (bytes_eq url) es)
  pub types_are : (code : Text) → lookup (bytes_eq code) (keys_seen types) ≡ root_key_in es code
