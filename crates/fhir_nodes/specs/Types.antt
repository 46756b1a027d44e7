-- Which definition a type code names, and of what kind its type is (FHIR R4, ElementDefinition, type.code).
use Rattle.std.specs.Prelude.{ℕ, List, [], ◌∷◌, Bool, false, ◌&&◌, nat_eq, Option, None, Some, if◌then◌else◌, codes}
use Rattle.std.specs.Option.{option_map, option_map_or, option_and_then}
use Rattle.std.specs.List.{slice_get, starts_with}
use Rattle.std.specs.Str.{bytes_eq}
use Rattle.fhir_json.specs.Tree.{Text}
use Rattle.fhir_prims.specs.declared.prim.PrimType.{PrimType}
use Rattle.fhir_prims.specs.Values.{prim_of}
use Rattle.fhir_definition.specs.Kind.{is_resource_kind}
use Rattle.fhir_definition.specs.Snapshot.{root_place}
use Rattle.fhir_definition.specs.Definition.{Definition, is_primitive}
use Rattle.fhir_nodes.specs.declared.node.NodeRef.{NodeRef}

-- the place of the first type definition of that type
abbrev pub type_place : List Definition → Text → Option ℕ
type_place [] code = None
type_place (d ∷ ds) code = if d.is_type && bytes_eq code d.type then Some d.place else type_place ds code

-- the definition of a type
abbrev pub type_of_code : List Definition → Text → Option Definition
type_of_code ds code = option_and_then (slice_get ds) (type_place ds code)

-- the root of the definition of a type
abbrev pub root_of_code : List Definition → Text → Option NodeRef
root_of_code ds code =
    option_and_then (λ d. option_map (λ e. record { definition = d.place; element = e }) (root_place d.elements)) (type_of_code ds code)

-- ---- kinds of types

abbrev pub is_resource : Definition → Bool
is_resource d = option_map_or is_resource_kind d.kind false

abbrev pub names_resource : List Definition → Text → Bool
names_resource ds code = option_map_or is_resource (type_of_code ds code) false

abbrev pub names_primitive : List Definition → Text → Bool
names_primitive ds code = option_map_or is_primitive (type_of_code ds code) false

-- the primitive type that a code names
abbrev pub primitive_of : List Definition → Text → Option PrimType
primitive_of ds code = if names_primitive ds code then prim_of code else None

-- the codes of FHIRPath's own types
abbrev pub is_system : Text → Bool
is_system code = starts_with nat_eq code (codes "http://hl7.org/fhirpath/System.")
