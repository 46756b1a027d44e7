-- The keys that a definition names: those of the definitions on which a judgement by it may rest (FHIR R4, StructureDefinition,
-- ElementDefinition, ValueSet). They are read in whatever else is wrong with the definition.
use Rattle.std.specs.Prelude.{ℕ, List, [], ◌∷◌, ◌++◌, codes}
use Rattle.std.specs.Option.{option_map_or}
use Rattle.std.specs.Result.{result_ok}
use Rattle.std.specs.List.{flat_map}
use Rattle.fhir_json.specs.Tree.{Text, Tree}
use Rattle.fhir_json.specs.Fields.{field, text_in, text_at, items_in, texts_in}
use Rattle.fhir_names.specs.Texts.{cut_at_first}
use Rattle.fhir_names.specs.Canonicals.{read_canonical}
use Rattle.fhir_reach.specs.Keys.{KeyValue, of_url, of_code}

-- the url of a canonical; a text that is no canonical names nothing
abbrev pub canonical_keys : Text → List KeyValue
canonical_keys text = option_map_or (λ r. of_url r.0 ∷ []) (result_ok (read_canonical text)) []

-- ---- StructureDefinitions

-- a type: its code, its profiles and its target profiles
abbrev pub type_keys : Tree → List KeyValue
type_keys t =
    of_code (text_at (codes "code") t)
    ∷ (flat_map canonical_keys (texts_in (codes "profile") t) ++ flat_map canonical_keys (texts_in (codes "targetProfile") t))

abbrev pub hash : ℕ
hash = 35

-- a content reference: the definition that it names in front of `#`, if it names one
abbrev pub content_keys : Text → List KeyValue
content_keys text = option_map_or (λ cut. canonical_keys cut.0) (cut_at_first hash text) []

-- a binding of any strength: its value set
abbrev pub binding_keys : Tree → List KeyValue
binding_keys t = canonical_keys (text_at (codes "valueSet") t)

abbrev pub element_keys : Tree → List KeyValue
element_keys t =
    flat_map type_keys (items_in (codes "type") t)
    ++ (content_keys (text_at (codes "contentReference") t) ++ option_map_or binding_keys (field (codes "binding") t) [])

-- the elements of a snapshot or of a differential
abbrev pub part_keys : Text → Tree → List KeyValue
part_keys part t = option_map_or (λ s. flat_map element_keys (items_in (codes "element") s)) (field part t) []

-- its base, its own type, and what its elements name
abbrev pub structure_keys : Tree → List KeyValue
structure_keys t =
    canonical_keys (text_at (codes "baseDefinition") t)
    ++ of_code (text_at (codes "type") t) ∷ (part_keys (codes "snapshot") t ++ part_keys (codes "differential") t)

-- ---- value sets

-- an include or an exclude: its code system and its value sets
abbrev pub include_keys : Tree → List KeyValue
include_keys t = option_map_or (λ system. of_url system ∷ []) (text_in (codes "system") t) [] ++ flat_map canonical_keys (texts_in (codes "valueSet") t)

abbrev pub compose_keys : Tree → List KeyValue
compose_keys t = flat_map include_keys (items_in (codes "include") t) ++ flat_map include_keys (items_in (codes "exclude") t)

abbrev pub value_set_keys : Tree → List KeyValue
value_set_keys t = option_map_or compose_keys (field (codes "compose") t) []
