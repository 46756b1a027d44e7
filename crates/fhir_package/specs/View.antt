-- What contracts see of the maps of a package.
use Rattle.std.specs.Prelude.{List, map, string_bytes}
use Rattle.fhir_json.specs.Tree.{Text, Tree}
use Rattle.fhir_json.specs.Views.{tree_of}
use Rattle.fhir_package.specs.declared.url_map.UrlEntry.{UrlEntry}
use Rattle.fhir_package.specs.Definitions.{ByUrl}

-- a url and its tree
abbrev pub entry_seen : UrlEntry → Text × Tree
entry_seen e = (string_bytes e.url, tree_of e.tree)

abbrev pub entries_seen : List UrlEntry → ByUrl
entries_seen es = map entry_seen es
