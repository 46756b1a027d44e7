-- What contracts see of value sets that are kept (used by private contracts alone).
use Rattle.std.specs.Prelude.{List, map, string_bytes}
use Rattle.std.specs.Option.{option_map}
use Rattle.fhir_json.specs.Tree.{Text}
use Rattle.fhir_json.specs.Views.{tree_of}
use Rattle.fhir_codes.specs.declared.value_sets.FoundSet.{FoundSet}
use Rattle.fhir_codes.specs.Expanding.{Expansion, Expansions}

abbrev pub found_set : FoundSet → Text × Expansion
found_set e = (string_bytes e.url, record { version = option_map tree_of e.version; concepts = e.concepts })

abbrev pub found_sets : List FoundSet → Expansions
found_sets es = map found_set es
