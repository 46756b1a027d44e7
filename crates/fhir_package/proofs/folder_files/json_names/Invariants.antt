use Rattle.std.proofs.Common.{◌≡◌, map, string_bytes}
use Rattle.std.specs.Prelude.{filter}
use Rattle.fhir_package.specs.Packing.{is_json_name, ordered_with, json_names}
use Rattle.fhir_package.proofs.folder_files.json_names.Given as goal

abbrev pub invariant-loop-name : goal.invariant-loop-name
invariant-loop-name l =
    json_names (map string_bytes l.fn.names.items)
    ≡ ordered_with (map string_bytes l.ordered.keys) (filter is_json_name (map string_bytes l.name-iterator.rest.items))
