-- What is reported on: all definitions, or those whose urls begin with one of some prefixes, and what these reach.
use Rattle.std.specs.Prelude.{ℕ, List, [], ◌∷◌, ◌++◌, map, filter, Bool, true, false, not, nat_eq, Option, None, Some, Result, Ok, Err}
use Rattle.std.specs.List.{list_any, position_from, starts_with}
use Rattle.std.specs.Map.{keys_of}
use Rattle.std.specs.Option.{option_map, option_map_or}
use Rattle.fhir_json.specs.Tree.{Text, Tree}
use Rattle.fhir_package.specs.declared.kind.Kind.{Kind}
use Rattle.fhir_package.specs.declared.kind.Kind.TheVariants.{StructureDefinition, ValueSet, CodeSystem}
use Rattle.fhir_package.specs.Definitions.{ByUrl, Definitions, at_url}
use Rattle.fhir_reach.specs.Keys.{KeyValue, of_url}
use Rattle.fhir_reach.specs.Naming.{structure_keys, value_set_keys}
use Rattle.fhir_reach.specs.Reach.{is_held}
use Rattle.fhir_reach.specs.Search.{reached}
use Rattle.fhir_findings.specs.declared.selection.SelectFault.{SelectFault}
use Rattle.fhir_findings.specs.declared.selection.SelectFault.TheVariants.{Unknown, NoMemory}

-- ---- a package's own definitions

abbrev pub begins_with : Text → Text → Bool
begins_with prefix url = starts_with nat_eq url prefix

-- the url begins with one of the prefixes
abbrev pub is_own : List Text → Text → Bool
is_own prefixes url = list_any (λ prefix. begins_with prefix url) prefixes

abbrev pub own_of : List Text → ByUrl → List Text
own_of prefixes es = filter (is_own prefixes) (keys_of es)

-- of each kind the urls that begin so
abbrev pub own_urls : List Text → Definitions → List Text
own_urls prefixes p = own_of prefixes p.structure_definitions ++ (own_of prefixes p.value_sets ++ own_of prefixes p.code_systems)

-- the urls of each kind
abbrev pub all_urls : Definitions → List Text
all_urls p = keys_of p.structure_definitions ++ (keys_of p.value_sets ++ keys_of p.code_systems)

-- no url begins with the prefix
abbrev pub is_unknown : Definitions → Text → Bool
is_unknown p prefix = not (list_any (begins_with prefix) (all_urls p))

-- the place of the first such prefix
abbrev pub unknown_place : Definitions → List Text → Option ℕ
unknown_place p prefixes = position_from (is_unknown p) 0 prefixes

-- ---- what is reported on

-- all, or that for which one of the keys stands
abbrev pub SelectionValue : Type 0
SelectionValue = Option (List KeyValue)

-- what the own definitions reach
abbrev pub selection_of : List Text → Definitions → SelectionValue
selection_of prefixes p = Some (reached p (map of_url (own_urls prefixes p)))

-- the same, and all where there are no prefixes
abbrev pub asked_selection : List Text → Definitions → SelectionValue
asked_selection [] p = None
asked_selection (prefix ∷ prefixes) p = selection_of (prefix ∷ prefixes) p

-- the profile or the type at a url, and what it reaches; nothing where there is no such definition
abbrev pub profile_selection : Text → Definitions → Option SelectionValue
profile_selection url p = option_map (λ t. Some (reached p (of_url url ∷ []))) (at_url StructureDefinition url p)

-- that, if each prefix begins some url
abbrev pub select : List Text → Definitions → Result SelectionValue SelectFault
select prefixes p = option_map_or (λ place. Err (Unknown place)) (unknown_place p prefixes) (Ok (asked_selection prefixes p))

abbrev pub is_no_memory : SelectFault → Bool
is_no_memory (Unknown place) = false
is_no_memory NoMemory = true

-- the definition of a kind at a url is reported on
abbrev pub is_selected : SelectionValue → Definitions → Kind → Text → Bool
is_selected None p kind url = true
is_selected (Some keys) p kind url = option_map_or (is_held keys kind url) (at_url kind url p) false

-- ---- what definitions name

abbrev pub keys_named : Kind → Tree → List KeyValue
keys_named StructureDefinition t = structure_keys t
keys_named ValueSet t = value_set_keys t
keys_named CodeSystem t = []
