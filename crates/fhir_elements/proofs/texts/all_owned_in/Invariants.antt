use Rattle.std.proofs.Common.{◌≡◌, map, take, string_bytes}
use Rattle.fhir_json.specs.Fields.{text_or_empty}
use Rattle.fhir_json.specs.Views.{trees_of}
use Rattle.fhir_elements.proofs.texts.all_owned_in.Given as goal

abbrev pub invariant-loop-item : goal.invariant-loop-item
invariant-loop-item l = map string_bytes l.texts.items ≡ map text_or_empty (trees_of (take l.item-index l.items))
