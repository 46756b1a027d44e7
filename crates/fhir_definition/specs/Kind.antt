-- The kinds of types (FHIR R4, StructureDefinition, kind).
use Rattle.std.specs.Prelude.{Bool, true, false, Option, None, Some, if◌then◌else◌, codes}
use Rattle.std.specs.Str.{bytes_eq}
use Rattle.fhir_json.specs.Tree.{Text}
use Rattle.fhir_definition.specs.declared.kind.TypeKind.{TypeKind}
use Rattle.fhir_definition.specs.declared.kind.TypeKind.TheVariants.{Primitive, Complex, Resource}

abbrev pub kind_of : Text → Option TypeKind
kind_of s =
    if bytes_eq s (codes "primitive-type") then Some Primitive
    else (if bytes_eq s (codes "complex-type") then Some Complex
    else (if bytes_eq s (codes "resource") then Some Resource else None))

abbrev pub is_primitive_kind : TypeKind → Bool
is_primitive_kind Primitive = true
is_primitive_kind Complex = false
is_primitive_kind Resource = false

abbrev pub is_resource_kind : TypeKind → Bool
is_resource_kind Primitive = false
is_resource_kind Complex = false
is_resource_kind Resource = true
