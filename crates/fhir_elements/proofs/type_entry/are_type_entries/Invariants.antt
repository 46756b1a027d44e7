use Rattle.std.proofs.Common.{◌≡◌, drop}
use Rattle.std.specs.List.{list_all}
use Rattle.fhir_json.specs.Views.{trees_of}
use Rattle.fhir_elements.specs.TypeEntry.{is_type_entry}
use Rattle.fhir_elements.proofs.type_entry.are_type_entries.Given as goal

abbrev pub invariant-loop-item : goal.invariant-loop-item
invariant-loop-item l = list_all is_type_entry (trees_of (drop l.item-index l.items)) ≡ list_all is_type_entry (trees_of l.items)
