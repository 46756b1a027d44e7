-- The definitions that can be used by their urls, and the versions of definitions.
use Rattle.std.specs.Prelude.{ℕ, Bool, false, Option}
use Rattle.std.specs.Option.{option_map_or, option_and_then}
use Rattle.std.specs.List.{slice_get}
use Rattle.fhir_json.specs.Tree.{Text}
use Rattle.fhir_json.specs.Fields.{as_text}
use Rattle.fhir_definition.specs.Definition.{Definition}
use Rattle.fhir_nodes.specs.Urls.{url_place}
use Rattle.fhir_schema.specs.Schemas.{SchemaValue, is_usable}

-- a definition stands at the url, and can be used
abbrev pub can_be_used : SchemaValue → Text → Bool
can_be_used s url = option_map_or (is_usable s) (url_place s.definitions url) false

-- the version that a definition states, where it is a text
abbrev pub stated_version : Definition → Option Text
stated_version d = option_and_then as_text d.version

abbrev pub version_at : SchemaValue → ℕ → Option Text
version_at s place = option_and_then stated_version (slice_get s.definitions place)

-- the version of the definition at a url, whether that can be used or not
abbrev pub version : SchemaValue → Text → Option Text
version s url = option_and_then (version_at s) (url_place s.definitions url)
