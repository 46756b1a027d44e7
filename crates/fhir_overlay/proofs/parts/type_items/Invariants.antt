use Rattle.std.proofs.Common.{◌≡◌, map, take}
use Rattle.fhir_json.specs.Views.{trees_of}
use Rattle.fhir_overlay.specs.Json.{type_entry_tree}
use Rattle.fhir_overlay.proofs.parts.type_items.Given as goal

abbrev pub invariant-loop-entry : goal.invariant-loop-entry
invariant-loop-entry l = trees_of l.items.items ≡ map type_entry_tree (take l.entry-index l.entries)
