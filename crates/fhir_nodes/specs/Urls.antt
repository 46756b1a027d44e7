-- Which definition a url or a canonical names (FHIR R4, Data Types, canonical).
use Rattle.std.specs.Prelude.{ℕ, List, [], ◌∷◌, Bool, true, false, Option, None, Some, if◌then◌else◌}
use Rattle.std.specs.Option.{option_map_or, option_and_then}
use Rattle.std.specs.List.{slice_get}
use Rattle.std.specs.Result.{result_ok}
use Rattle.std.specs.Str.{bytes_eq}
use Rattle.fhir_json.specs.Tree.{Text}
use Rattle.fhir_names.specs.Canonicals.{CanonicalParts, read_canonical}
use Rattle.fhir_package.specs.Canonical.{has_version}
use Rattle.fhir_definition.specs.Definition.{Definition}

abbrev pub url_place : List Definition → Text → Option ℕ
url_place [] url = None
url_place (d ∷ ds) url = if bytes_eq url d.url then Some d.place else url_place ds url

abbrev pub is_versioned : List Definition → Text → ℕ → Bool
is_versioned ds version place = option_map_or (λ d. has_version version d.version) (slice_get ds place) false

-- the place of a definition, where no version is asked for, or it has none or that one
abbrev pub where_versioned : List Definition → Option Text → ℕ → Option ℕ
where_versioned ds version place =
    if option_map_or (λ v. is_versioned ds v place) version true then Some place else None

abbrev pub version_place : List Definition → CanonicalParts → Option ℕ
version_place ds r = option_and_then (where_versioned ds r.1) (url_place ds r.0)

-- the place of the definition that a canonical names; a text that is no canonical names none
abbrev pub canonical_place : List Definition → Text → Option ℕ
canonical_place ds canonical = option_and_then (version_place ds) (result_ok (read_canonical canonical))
