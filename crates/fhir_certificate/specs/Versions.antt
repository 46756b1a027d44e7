-- How the version of a definition is written: as JSON, or as `-` where it has none.
use Rattle.std.specs.Prelude.{Bool, false, ◌||◌, Option, None, Some, Result, Ok, Err, codes}
use Rattle.std.specs.Str.{bytes_eq}
use Rattle.fhir_json.specs.Tree.{Text, Tree, string}
use Rattle.fhir_json.specs.Compact.{compact}
use Rattle.fhir_json.specs.Reading.{reading}
use Rattle.fhir_json.specs.declared.fault.JsonFault.{JsonFault}

abbrev pub version_text : Option Text → Text
version_text None = codes "-"
version_text (Some version) = compact (string version)

-- the text is the compact one of the text that was read
abbrev pub is_text_read : Text → Tree → Bool
is_text_read text (string version) = bytes_eq text (compact (string version))
is_text_read text _ = false

abbrev pub is_compact_of : Text → Result Tree JsonFault → Bool
is_compact_of text (Ok tree) = is_text_read text tree
is_compact_of text (Err fault) = false

-- the text writes a version, or that there is none
abbrev pub is_version : Text → Bool
is_version text = bytes_eq text (codes "-") || is_compact_of text (reading text)
