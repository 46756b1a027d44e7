-- Code systems (FHIR R4, CodeSystem): the codes of the concepts that one defines, of those too that are nested in others.
use Rattle.std.specs.Prelude.{List, [], ◌∷◌, ◌++◌, Bool, true, false, ◌&&◌, is_some, if◌then◌else◌, codes}
use Rattle.std.specs.Option.{option_map_or}
use Rattle.std.specs.Str.{bytes_eq}
use Rattle.fhir_json.specs.Tree.{Text, Tree, array, object, Items, no_items, item, Members, no_members, member}
use Rattle.fhir_json.specs.Fields.{text_in, text_at}

-- it has a code
abbrev pub is_coded : Tree → Bool
is_coded t = is_some (text_in (codes "code") t)

-- ---- the concepts in the field `concept` of a code system, and of a concept

abbrev mutual
  -- a concept has a code, and what is nested in it are concepts
  pub is_concept : Tree → Bool
  is_concept (object ms) = is_coded (object ms) && nested_are_concepts ms
  is_concept _ = false

  pub nested_are_concepts : Members → Bool
  nested_are_concepts no_members = true
  nested_are_concepts (member name t ms) = if bytes_eq name (codes "concept") then is_concept_list t else nested_are_concepts ms

  pub is_concept_list : Tree → Bool
  is_concept_list (array ts) = are_concepts ts
  is_concept_list _ = false

  pub are_concepts : Items → Bool
  are_concepts no_items = true
  are_concepts (item t ts) = is_concept t && are_concepts ts

abbrev mutual
  -- the code of a concept, and those of the concepts nested in it
  pub codes_of_concept : Tree → List Text
  codes_of_concept (object ms) = text_at (codes "code") (object ms) ∷ nested_codes ms
  codes_of_concept _ = []

  pub nested_codes : Members → List Text
  nested_codes no_members = []
  nested_codes (member name t ms) = if bytes_eq name (codes "concept") then codes_of_list t else nested_codes ms

  pub codes_of_list : Tree → List Text
  codes_of_list (array ts) = codes_of_concepts ts
  codes_of_list _ = []

  pub codes_of_concepts : Items → List Text
  codes_of_concepts no_items = []
  codes_of_concepts (item t ts) = codes_of_concept t ++ codes_of_concepts ts

-- ---- a code system

-- it says that it defines all codes of its system, and its concepts can be read (FHIR R4, CodeSystem, content)
abbrev pub is_complete : Tree → Bool
is_complete (object ms) =
    option_map_or (bytes_eq (codes "complete")) (text_in (codes "content") (object ms)) false && nested_are_concepts ms
is_complete _ = false

abbrev pub codes_defined : Tree → List Text
codes_defined (object ms) = nested_codes ms
codes_defined _ = []
