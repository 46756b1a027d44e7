-- The definition that a canonical names (FHIR R4, References between Resources, canonical URLs).
use Rattle.std.specs.Prelude.{Bool, true, false, Option, None, Some, if◌then◌else◌, codes}
use Rattle.std.specs.Option.{option_map_or, option_and_then}
use Rattle.std.specs.Result.{result_ok}
use Rattle.std.specs.Str.{bytes_eq}
use Rattle.fhir_json.specs.Tree.{Text, Tree}
use Rattle.fhir_json.specs.Fields.{field, as_text}
use Rattle.fhir_names.specs.Canonicals.{CanonicalParts, read_canonical}
use Rattle.fhir_package.specs.declared.kind.Kind.{Kind}
use Rattle.fhir_package.specs.Definitions.{Definitions, at_url}

-- no version, or that one
abbrev pub has_version : Text → Option Tree → Bool
has_version version v = option_map_or (λ v. option_map_or (bytes_eq version) (as_text v) false) v true

abbrev pub is_of_version : Text → Tree → Bool
is_of_version version t = has_version version (field (codes "version") t)

-- a definition, where no version is asked for, or it has none or that one
abbrev pub where_version : Option Text → Tree → Option Tree
where_version version t = if option_map_or (λ v. is_of_version v t) version true then Some t else None

-- the definition of a kind that a url and perhaps a version mean
abbrev pub at_version : Kind → Definitions → CanonicalParts → Option Tree
at_version kind p r = option_and_then (where_version r.1) (at_url kind r.0 p)

-- the definition that a canonical names; a text that is no canonical names none
abbrev pub named_by : Kind → Text → Definitions → Option Tree
named_by kind canonical p = option_and_then (at_version kind p) (result_ok (read_canonical canonical))
