-- Which type codes cover which: a code covers itself, and one of a resource covers the types that derive from it (FHIR
-- R4, Resource: an element of type `Resource` holds any resource).
use Rattle.std.specs.Prelude.{ℕ, zero, suc, List, [], length, Bool, false, ◌&&◌, ◌||◌, nat_eq, Option, None, Some}
use Rattle.std.specs.Option.{option_map_or}
use Rattle.std.specs.List.{slice_get}
use Rattle.std.specs.Str.{bytes_eq}
use Rattle.fhir_json.specs.Tree.{Text}
use Rattle.fhir_nodes.specs.declared.node.NodeRef.{NodeRef}
use Rattle.fhir_definition.specs.Definition.{Definition}
use Rattle.fhir_nodes.specs.Types.{type_place, names_resource}
use Rattle.fhir_schema.specs.Settling.{base_of_place, ends_within}
use Rattle.fhir_schema.specs.Schemas.{SchemaValue}

-- the chain of bases from a place comes by another within so many places
abbrev pub meets_within : List Definition → ℕ → ℕ → Option ℕ → Bool
meets_within ds goal n None = false
meets_within ds goal zero (Some place) = false
meets_within ds goal (suc n) (Some place) = nat_eq goal place || meets_within ds goal n (base_of_place ds place)

-- the chain ends and comes by the goal; one that ends has no more places than there are definitions
abbrev pub reaches : List Definition → ℕ → ℕ → Bool
reaches ds start goal = ends_within ds (length ds) (Some start) && meets_within ds goal (length ds) (Some start)

-- the same of the definitions of two types
abbrev pub reaches_type : List Definition → Text → Text → Bool
reaches_type ds from code =
    option_map_or (λ start. option_map_or (reaches ds start) (type_place ds code) false) (type_place ds from) false

abbrev pub covers_in : List Definition → Text → Text → Bool
covers_in ds code other = bytes_eq code other || (names_resource ds code && reaches_type ds other code)

-- the code is that type's, or that of a type that derives from it by any number of bases (FHIR R4, StructureDefinition,
-- baseDefinition)
abbrev pub derives_in : List Definition → Text → Text → Bool
derives_in ds code ancestor = bytes_eq code ancestor || reaches_type ds code ancestor

abbrev pub derives : SchemaValue → Text → Text → Bool
derives s code ancestor = derives_in s.definitions code ancestor

-- the first code covers the other
abbrev pub covers : SchemaValue → Text → Text → Bool
covers s code other = covers_in s.definitions code other

-- the type that a node's definition defines or constrains
abbrev pub type_at : SchemaValue → NodeRef → Text
type_at s n = option_map_or (λ d. d.type) (slice_get s.definitions n.definition) []
