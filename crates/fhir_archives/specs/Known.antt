-- Versions under names.
use Rattle.std.specs.Prelude.{◌≡◌, Bool, false, List, String, is_some}
use Rattle.std.specs.Option.{option_map_or}
use Rattle.std.specs.BTreeMap.{BTreeMap, get_by_text}
use Rattle.std.specs.declared.alloc.Global.{Global}
use Rattle.fhir_json.specs.Tree.{Text}
use Rattle.fhir_names.specs.Places.{Places, place_of}
use Rattle.fhir_archives.specs.Archives.{Named, has_version}

-- whether a name has that version
abbrev pub knows : BTreeMap (String Global) Places → Text → Text → Bool
knows versions name version = option_map_or (λ of_name. is_some (place_of of_name version)) (get_by_text versions name) false

-- they have a version under a name exactly where one of the archives has both
abbrev pub Knows : BTreeMap (String Global) Places → List Named → Type 0
Knows versions ns = (name version : Text) → knows versions name version ≡ has_version name version ns
