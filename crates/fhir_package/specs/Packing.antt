-- The package that a folder of files is: its files in the order of their names' bytes, each one a tree, and of each
-- tree the definitions that it holds.
use Rattle.std.specs.Prelude.{ℕ, zero, suc, List, [], ◌∷◌, ◌++◌, map, filter, Bool, Option, None, Some, Result, Ok, Err, if◌then◌else◌, nat_eq, codes}
use Rattle.std.specs.Option.{option_map, option_map_or, option_and_then}
use Rattle.std.specs.List.{flat_map, ends_with}
use Rattle.std.specs.Map.{lookup, keys_of}
use Rattle.std.specs.Str.{bytes_eq}
use Rattle.std.specs.Cmp.Lexicographic.{slice_cmp}
use Rattle.std.specs.Ordering.{nat_cmp}
use Rattle.std.specs.BTreeSet.{insert_key}
use Rattle.fhir_json.specs.Tree.{Text, Tree}
use Rattle.fhir_json.specs.Fields.{field, text_in, text_at, items_in}
use Rattle.fhir_json.specs.Sound.{max_depth}
use Rattle.fhir_json.specs.Reading.{reading}
use Rattle.fhir_matching.specs.Equality.{equal}
use Rattle.fhir_package.specs.declared.kind.Kind.{Kind}
use Rattle.fhir_package.specs.declared.kind.Kind.TheVariants.{StructureDefinition, ValueSet, CodeSystem}
use Rattle.fhir_package.specs.Definitions.{Definitions, no_definitions, of_kind, with_kind, at_url}
use Rattle.fhir_package.specs.Folder.{Files}

-- ---- the definitions that a tree holds

pub record Definition : Type 0 where
  pub kind : Kind
  pub url : Text
  pub tree : Tree

-- the kind of definition that a resource type is
abbrev pub kind_named : Text → Option Kind
kind_named name =
    if bytes_eq name (codes "StructureDefinition") then Some StructureDefinition
    else (if bytes_eq name (codes "ValueSet") then Some ValueSet
    else (if bytes_eq name (codes "CodeSystem") then Some CodeSystem else None))

abbrev pub resource_type : Tree → Text
resource_type t = text_at (codes "resourceType") t

abbrev pub is_bundle : Tree → Bool
is_bundle t = bytes_eq (resource_type t) (codes "Bundle")

abbrev pub definition_with : Tree → Kind → Option Definition
definition_with t kind = option_map (λ url. record { kind = kind; url = url; tree = t }) (text_in (codes "url") t)

-- the definition that a tree is: one of the three kinds, with a text `url`
abbrev pub definition_of : Tree → Option Definition
definition_of t = option_and_then (definition_with t) (kind_named (resource_type t))

-- the definitions that a tree holds within so many levels: itself, or of a Bundle those in the resource of each entry
unfoldable pub held_within : ℕ → Tree → List Definition
held_within zero t = []
held_within (suc n) t =
    if is_bundle t
    then flat_map (λ e. option_map_or (held_within n) (field (codes "resource") e) []) (items_in (codes "entry") t)
    else option_map_or (λ d. d ∷ []) (definition_of t) []

-- of an entry those in its resource
abbrev pub in_entry : ℕ → Tree → List Definition
in_entry n e = option_map_or (held_within n) (field (codes "resource") e) []

-- the definitions that a tree holds; no tree that is read has more levels than these
unfoldable pub definitions_in : Tree → List Definition
definitions_in t = held_within max_depth t

-- ---- what is put into a package

-- a definition behind the others of its kind
abbrev pub with_definition : Definition → Definitions → Definitions
with_definition d p = with_kind d.kind (of_kind d.kind p ++ (d.url, d.tree) ∷ []) p

-- it goes there unless an equal one is there; another one there is a clash
abbrev pub joined : Option Tree → Definition → Definitions → Result Definitions Text
joined None d p = Ok (with_definition d p)
joined (Some t) d p = if equal t d.tree then Ok p else Err d.url

abbrev pub join : Definition → Definitions → Result Definitions Text
join d p = joined (at_url d.kind d.url p) d p

abbrev pub and_then : {A B F : Type 0} → (A → Result B F) → Result A F → Result B F
and_then f (Ok x) = f x
and_then f (Err e) = Err e

abbrev pub join_all : List Definition → Definitions → Result Definitions Text
join_all [] p = Ok p
join_all (d ∷ ds) p = and_then (join_all ds) (join d p)

-- ---- files

-- why a folder is no package
pub data Refusal : Type 0 where
  -- the file of that name is no text of JSON
  not_json : Text → Refusal
  -- two different definitions are of one kind and that url
  clash : Text → Refusal

abbrev pub is_json_name : Text → Bool
is_json_name name = ends_with nat_eq name (codes ".json")

-- names put among others that are in the order of their bytes, each once
abbrev pub ordered_with : List Text → List Text → List Text
ordered_with ordered [] = ordered
ordered_with ordered (n ∷ ns) = ordered_with (insert_key (slice_cmp nat_cmp) ordered n) ns

-- the names that end in ".json", in the order of their bytes, each once
abbrev pub json_names : List Text → List Text
json_names names = ordered_with [] (filter is_json_name names)

abbrev pub or_clash : Result Definitions Text → Result Definitions Refusal
or_clash (Ok p) = Ok p
or_clash (Err url) = Err (clash url)

abbrev pub put_all : List Definition → Definitions → Result Definitions Refusal
put_all ds p = or_clash (join_all ds p)

abbrev pub take_tree : {F : Type 0} → Text → Result Tree F → Definitions → Result Definitions Refusal
take_tree name (Ok t) p = put_all (definitions_in t) p
take_tree name (Err fault) p = Err (not_json name)

-- the definitions of one file put in
abbrev pub take_file : Text → List ℕ → Definitions → Result Definitions Refusal
take_file name bytes p = take_tree name (reading bytes) p

-- the bytes of a name
abbrev pub bytes_at : Files → Text → List ℕ
bytes_at files name = option_map_or (λ bytes. bytes) (lookup (bytes_eq name) files) []

-- the files whose names end in ".json", in the order of their names' bytes, each name once
abbrev pub json_files : Files → Files
json_files files = map (λ n. (n, bytes_at files n)) (json_names (keys_of files))

-- the definitions of the files put in, of one file after the other
abbrev pub take_files : Files → Definitions → Result Definitions Refusal
take_files [] p = Ok p
take_files (f ∷ fs) p = and_then (take_files fs) (take_file f.0 f.1 p)

-- the package that these files are, or the first refusal
abbrev pub pack_files : Files → Result Definitions Refusal
pack_files files = take_files files no_definitions

-- the package that a folder is, or the first refusal
abbrev pub pack : Files → Result Definitions Refusal
pack files = pack_files (json_files files)
