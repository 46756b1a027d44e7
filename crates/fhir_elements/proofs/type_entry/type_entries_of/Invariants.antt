use Rattle.std.proofs.Common.{◌≡◌, map, take}
use Rattle.fhir_json.specs.Views.{trees_of}
use Rattle.fhir_elements.specs.TypeEntry.{type_entry_of}
use Rattle.fhir_elements.proofs.type_entry.type_entries_of.Given as goal

abbrev pub invariant-loop-item : goal.invariant-loop-item
invariant-loop-item l = l.entries.items ≡ map type_entry_of (trees_of (take l.item-index l.items))
