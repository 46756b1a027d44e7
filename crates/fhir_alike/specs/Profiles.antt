-- Which definitions are profiles (FHIR R4, StructureDefinition, derivation).
use Rattle.std.specs.Prelude.{Bool, false, codes}
use Rattle.std.specs.Option.{option_map_or}
use Rattle.std.specs.Str.{bytes_eq}
use Rattle.fhir_json.specs.Tree.{Text, Tree}
use Rattle.fhir_json.specs.Fields.{text_at}
use Rattle.fhir_package.specs.declared.kind.Kind.TheVariants.{StructureDefinition}
use Rattle.fhir_package.specs.Definitions.{Definitions, at_url}

-- one that constrains a type
abbrev pub is_profile : Tree → Bool
is_profile t = bytes_eq (text_at (codes "derivation") t) (codes "constraint")

-- a package has a profile at a url
abbrev pub has_profile : Definitions → Text → Bool
has_profile p url = option_map_or is_profile (at_url StructureDefinition url p) false
